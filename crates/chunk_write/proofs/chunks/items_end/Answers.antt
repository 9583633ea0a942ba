use Rattle.chunk_write.proofs.Sizes.{ending_again}
use Rattle.chunk_write.proofs.chunks.items_end.Goals as goal

pub loop-i-preserved : goal.loop-i-preserved
loop-i-preserved c = ending_again _ _ _ _ _ c.requires _ _ _ c.loop-i.invariant c.loop-i-test.true _ c.in_ok-checked_sub.ensures _ _ c.in_ok-left.ensures c.in_ok-size.ensures
