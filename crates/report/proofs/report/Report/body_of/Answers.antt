use Rattle.rfc3550.proofs.Prelude.{◌∙◌}
use Rattle.report.proofs.Reports.{none_header, headers}
use Rattle.report.proofs.report.Report.body_of.Goals as goal

pub returns-in_err-body : goal.returns-in_err-body
returns-in_err-body g c = c.from_residual.ensures ∙ none_header g.met.Self.Report.laws c.args.s.now _ _ c.MIN_PACKET_LEN.ensures c.PACKET_TYPE.ensures c.in_err-body.ensures

pub returns-then-body-MIN_PACKET_LEN : goal.returns-then-body-MIN_PACKET_LEN
returns-then-body-MIN_PACKET_LEN g c = let l = g.met.Self.Report.laws in let h = c.in_ok-body.ensures in search headers

pub returns : goal.returns
returns g c = let l = g.met.Self.Report.laws in let h = c.in_ok-body.ensures in search headers
