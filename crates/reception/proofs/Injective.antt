-- The interpretations of states and answers lose nothing.
use Rattle.std.specs.Prelude.{Option, Some, None}
use Rattle.std.proofs.Common.{◌≡◌, Bool, sym, refl, ap, ◌∙◌}
use Rattle.rfc3550.specs.Reception as rfc
use Rattle.report.specs.Block.{block_view}
use Rattle.reception.specs.Reception.{reception_of, update_of, report_of}
use Rattle.reception.specs.declared.reception.Reception.{Reception}
use Rattle.reception.specs.declared.reception.Update.{Update}
use Rattle.report.specs.declared.report_block.ReportBlock.{ReportBlock}

abbrev reception_view : rfc.Reception → Reception
reception_view s =
    record {
      max_seq = s.max_seq;
      cycles = s.cycles;
      base_seq = s.base_seq;
      bad_seq = s.bad_seq;
      probation = s.probation;
      received = s.received;
      expected_prior = s.expected_prior;
      received_prior = s.received_prior;
      transit = s.transit;
      jitter = s.jitter;
    }

pub reception_of_injective : (a b : Reception) → reception_of a ≡ reception_of b → a ≡ b
reception_of_injective a b e = ap reception_view e

pub update_of_injective : (a b : Update) → update_of a ≡ update_of b → a ≡ b
update_of_injective a b e = ap (λ (x : rfc.Reception × Bool). record { reception = reception_view x.0; accepted = x.1 }) e

-- from the same state
abbrev report_view : rfc.Reported × rfc.Reception → Option (ReportBlock × Reception)
report_view (rfc.in_probation, s) = None
report_view (rfc.made b, s) = Some (block_view b, reception_view s)

back : (s : rfc.Reception) (r : Option (ReportBlock × Reception)) → report_view (report_of s r) ≡ r
back s (Some (b, t)) = refl
back s None = refl

pub report_of_injective : (s : rfc.Reception) (a b : Option (ReportBlock × Reception)) → report_of s a ≡ report_of s b → a ≡ b
report_of_injective s a b e = sym (back s a) ∙ ap report_view e ∙ back s b
