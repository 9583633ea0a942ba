use Rattle.report.proofs.Reports.{parsed_within, parsed_blocks}
use Rattle.report.proofs.report.Report.report_blocks.Goals as goal

pub list_blocks_unchecked-requires : goal.list_blocks_unchecked-requires
list_blocks_unchecked-requires g c = parsed_within g.met.Self.Report.laws c.args.s.now _ c.in_ok-report.ensures _ c.places-n.ensures _ c.MIN_PACKET_LEN.ensures

pub returns-clause-laid : goal.returns-clause-laid
returns-clause-laid g c = parsed_blocks g.met.Self.Report.laws c.args.s.now _ c.in_ok-report.ensures _ c.places-n.ensures _ c.MIN_PACKET_LEN.ensures _ _ _ _ c.list_blocks_unchecked.ensures.laid
