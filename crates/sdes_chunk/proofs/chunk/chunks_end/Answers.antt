use Rattle.sdes_chunk.proofs.Chunks.{run_again}
use Rattle.sdes_chunk.proofs.chunk.chunks_end.Goals as goal

pub loop-after-preserved : goal.loop-after-preserved
loop-after-preserved c = run_again _ _ _ _ _ c.loop-after.invariant _ c.in-Some.ensures c.loop-after-test.true
