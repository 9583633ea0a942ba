use Rattle.rfc3550.proofs.Prelude.{ℕ, ◌+◌, ◌*◌, ◌∙◌, ap}
use Rattle.report.proofs.Reports.{index_past, index_within, index_there}
use Rattle.report.proofs.report.Report.report_block.Goals as goal

pub returns-then-n_reports-i : goal.returns-then-n_reports-i
returns-then-n_reports-i g c = index_past g.met.Self.Report.laws.maker c.args.s.now _ c.in-Some.ensures _ c.parse_count-n_reports.ensures.0 c.args.i c.if-n_reports-i.true

pub parse_block_unchecked-requires : goal.parse_block_unchecked-requires
parse_block_unchecked-requires g c = let l = g.met.Self.Report.laws in
    index_within l.maker c.args.s.now _ c.in-Some.ensures _ c.parse_count-n_reports.ensures.0 c.args.i c.if-n_reports-i.false _ (ap (λ (x : ℕ). x + 24 * c.args.i) (c.MIN_PACKET_LEN.ensures ∙ l.least_len))

pub returns : goal.returns
returns g c = let l = g.met.Self.Report.laws in
    index_there l.maker c.args.s.now _ c.in-Some.ensures _ c.parse_count-n_reports.ensures.0 c.args.i c.if-n_reports-i.false _ (rw (c.MIN_PACKET_LEN.ensures ∙ l.least_len) at c.parse_block_unchecked.ensures)
