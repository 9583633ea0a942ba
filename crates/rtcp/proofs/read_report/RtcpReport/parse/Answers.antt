use Rattle.rtcp.proofs.Reports.{in_order, refused_alone, accepted_alone}
use Rattle.rtcp.proofs.read_report.RtcpReport.parse.Goals as goal

pub accepted-requires : goal.accepted-requires
accepted-requires g c = in_order g.met.Self.Parsed.Report.laws c.args.s.now c.in-Some.report c.in-Some.ensures

pub returns-in-Some : goal.returns-in-Some
returns-in-Some g c = accepted_alone g.met.Self.Parsed.Report.laws c.args.s.now _ c.in-Some.ensures g.Self.RtcpReport.shown _ c.accepted.ensures

pub returns-in-None : goal.returns-in-None
returns-in-None g c = refused_alone g.met.Self.Parsed.Report.laws c.args.s.now g.Self.RtcpReport.shown _ c.why_unchecked.ensures _ c.from.ensures _ c.refused.ensures
