use Rattle.rfc3550.proofs.Prelude.{rules}
use Rattle.chunk_write.proofs.Sizes.{summing_over, summing_again, summing_done}
use Rattle.chunk_write.proofs.chunks.left_of.Goals as goal

pub returns-in_err-left : goal.returns-in_err-left
returns-in_err-left c = rw c.from_residual.ensures (summing_over _ _ _ _ c.loop-x.invariant c.loop-x-test.true c.in_err-left.ensures)

pub loop-x-preserved : goal.loop-x-preserved
loop-x-preserved c = summing_again _ _ _ _ c.loop-x.invariant c.loop-x-test.true _ c.in_ok-left.ensures

pub returns : goal.returns
returns c = search (rules, summing_done)
