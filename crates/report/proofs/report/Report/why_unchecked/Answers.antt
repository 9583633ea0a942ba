use Rattle.rfc3550.proofs.Prelude.{arith}
use Rattle.report.proofs.Reports.{header_refuses, why_header, why_short}
use Rattle.report.proofs.report.Report.why_unchecked.Goals as goal

pub returns-in_default : goal.returns-in_default
returns-in_default g c = why_header g.met.Self.Report.laws c.args.s.now _ _ c.MIN_PACKET_LEN-in_default.ensures c.PACKET_TYPE-in_default.ensures _ c.why_header_unchecked.ensures

pub why_header_unchecked-requires : goal.why_header_unchecked-requires
why_header_unchecked-requires g c = let l = g.met.Self.Report.laws in let n = l.least_len in let w = l.maker.wide in (
  omega (arith, c.MIN_PACKET_LEN-in_default.ensures),
  header_refuses l c.args.s.now _ _ c.MIN_PACKET_LEN.ensures c.PACKET_TYPE.ensures c.in_default.ensures _ _ c.MIN_PACKET_LEN-in_default.ensures c.PACKET_TYPE-in_default.ensures,
)

pub returns : goal.returns
returns g c = why_short g.met.Self.Report.laws c.args.s.now _ _ c.MIN_PACKET_LEN.ensures c.PACKET_TYPE.ensures _ c.in-Some.ensures _ c.parse_count-n_reports.ensures.0 _ c.MIN_PACKET_LEN-2.ensures c.requires
