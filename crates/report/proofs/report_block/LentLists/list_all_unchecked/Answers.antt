use Rattle.report.proofs.Blocks.{blocks}
use Rattle.report.proofs.report_block.LentLists.list_all_unchecked.Goals as goal

pub loop-i-init : goal.loop-i-init
loop-i-init c = search blocks

pub loop-i-preserved : goal.loop-i-preserved
loop-i-preserved c = search blocks
