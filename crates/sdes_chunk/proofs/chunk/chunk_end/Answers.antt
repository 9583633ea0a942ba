use Rattle.sdes_chunk.proofs.Chunks.{ends_of_chunks}
use Rattle.sdes_chunk.proofs.chunk.chunk_end.Goals as goal

pub returns-then-not-items : goal.returns-then-not-items
returns-then-not-items c = search ends_of_chunks

pub returns-then-chunk-length : goal.returns-then-chunk-length
returns-then-chunk-length c = search ends_of_chunks
