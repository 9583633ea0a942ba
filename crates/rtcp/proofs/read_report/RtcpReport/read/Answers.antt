use Rattle.rfc3550.proofs.Prelude.{arith}
use Rattle.rtcp.proofs.Reports.{both_refused, in_order, within, both_listed, both_unlisted}
use Rattle.rtcp.proofs.read_report.RtcpReport.read.Goals as goal

pub returns-in_default : goal.returns-in_default
returns-in_default g c = both_refused g.met.Self.Parsed.Report.laws c.args.s.now g.Self.RtcpReport.shown _ c.why_unchecked.ensures _ c.from.ensures _ c.refused.ensures _ _ _

pub list_blocks_unchecked-requires : goal.list_blocks_unchecked-requires
list_blocks_unchecked-requires g c = within g.met.Self.Parsed.Report.laws c.args.s.now _ c.in-Some.ensures _ c.places-n.ensures _ c.MIN_PACKET_LEN.ensures

pub accepted-requires : goal.accepted-requires
accepted-requires g c = in_order g.met.Self.Parsed.Report.laws c.args.s.now _ c.in-Some.ensures

pub returns-in-Ok : goal.returns-in-Ok
returns-in-Ok g c = both_listed g.met.Self.Parsed.Report.laws c.args.s.now _ c.in-Some.ensures _ c.places-n.ensures _ c.MIN_PACKET_LEN.ensures g.Self.RtcpReport.shown _ _ c.in-Ok.is _ c.accepted.ensures _ _ _ _ _ _ (grind arith)

pub returns-in-Err : goal.returns-in-Err
returns-in-Err g c = both_unlisted g.met.Self.Parsed.Report.laws c.args.s.now _ c.in-Some.ensures _ c.places-n.ensures _ c.MIN_PACKET_LEN.ensures g.Self.RtcpReport.shown _ _ c.in-Err.is _ c.from-in-Err.ensures _ c.refused-in-Err.ensures _ _ _ _ _ _ (grind arith)
