use Rattle.records.proofs.Reports.{records_again}
use Rattle.records.proofs.RecordsReportBlocks.write_blocks_unchecked.Goals as goal

pub loop-i-preserved : goal.loop-i-preserved
loop-i-preserved c = records_again _ _ _ _ _ c.loop-i.invariant c.requires.1 c.loop-i-test.true _ c.write_block_unchecked.ensures
