use Rattle.chunk_write.proofs.Laying.{chunking}
use Rattle.rfc3550.proofs.Prelude.{arith, rules}
use Rattle.chunk_write.proofs.Laying.{chunking_asks, chunking_place}
use Rattle.chunk_write.proofs.chunks.write_chunks_unchecked.Goals as goal

pub write_chunk-laid-requires : goal.write_chunk-laid-requires
write_chunk-laid-requires c = chunking_asks _ _ _ _ _ _ _ _ c.requires _ _ _ _ _ c.loop-k.invariant (search rules)

pub overflow_add-at : goal.overflow_add-at
overflow_add-at c = omega (arith, chunking_place _ _ _ _ _ _ _ _ c.requires _ _ _ _ _ c.loop-k.invariant (search rules) _ _ c.write_chunk-laid.ensures (search rules))

pub overflow_add-last : goal.overflow_add-last
overflow_add-last c = search chunking

pub loop-k-preserved : goal.loop-k-preserved
loop-k-preserved c = search chunking
