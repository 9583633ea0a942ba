use Rattle.report_write.proofs.Reports.{reports}
use Rattle.report_write.proofs.report_block.BlockListsReportBlocks.why_size_unchecked.Goals as goal

pub returns : goal.returns
returns c = search reports
