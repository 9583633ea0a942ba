use Rattle.chunk_write.proofs.Laying.{lone}
use Rattle.chunk_write.proofs.chunk.SdesChunkBuilderLoneWriter.write_into_unchecked.Goals as goal

pub write_chunks_unchecked-requires : goal.write_chunks_unchecked-requires
write_chunks_unchecked-requires c = search lone
