use Rattle.chunk_write.proofs.Laying.{lone_fits}
use Rattle.chunk_write.proofs.chunk.SdesChunkBuilderLoneWriter.TheImpl.Goals as goal

-- room for what has a size asks more than the method does
pub write_into_unchecked-asks : goal.write_into_unchecked-asks
write_into_unchecked-asks g c = lone_fits _ _ _ _ _ _ c.requires
