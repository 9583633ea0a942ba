use Rattle.chunk_write.proofs.Laying.{chunks}
use Rattle.chunk_write.proofs.chunks.write_chunk.Goals as goal

pub returns : goal.returns
returns c = search chunks
