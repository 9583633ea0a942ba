use Rattle.report_write.proofs.Blocks.{blocks}
use Rattle.report_write.proofs.report_block.merged_losses.Goals as goal

pub loop-loss-preserved : goal.loop-loss-preserved
loop-loss-preserved c = search blocks
