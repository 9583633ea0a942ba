use Rattle.rfc3550.proofs.Prelude.{◌∙◌}
use Rattle.report.proofs.Reports.{report_placed}
use Rattle.report.proofs.report.Report.read.Goals as goal

pub read_unchecked-requires : goal.read_unchecked-requires
read_unchecked-requires g c = let l = g.met.Self.Report.laws in
    report_placed l.maker c.args.s.now _ c.in_ok-body.ensures _ c.parse_count-n_reports.ensures.0 _ (c.MIN_PACKET_LEN.ensures ∙ l.least_len)
