use Rattle.report_write.proofs.Blocks.{blocks, lent_again}
use Rattle.report_write.proofs.report_block.BlockListsReportBlocks.write_blocks_unchecked.Goals as goal

pub loop-i-preserved : goal.loop-i-preserved
loop-i-preserved c =
    (search blocks, search blocks, lent_again _ _ _ _ _ _ _ c.loop-i.invariant.2 _ c.requires.1 (search blocks) (search blocks) c.write_block_unchecked.ensures)
