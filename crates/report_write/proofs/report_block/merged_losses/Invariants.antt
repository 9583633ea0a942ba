use Rattle.report_write.proofs.Blocks.{Merged}
use Rattle.report_write.proofs.report_block.merged_losses.Given as goal

abbrev pub invariant-loop-loss : goal.invariant-loop-loss
invariant-loop-loss l = Merged l.losses l.loss-index l.bits
