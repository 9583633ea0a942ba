-- What the functions of a source returned, in turn: each one's ensures, and what it says.
use Rattle.std.specs.Prelude.{◌≡◌, ℕ, ◌<◌, Option, Some, None}
use Rattle.rfc3550.specs.Reception.{in_probation, made, update, report_block}
use Rattle.rfc3550.specs.History.{Happening, packet, block, Reply, packet_reply, block_reply}
use Rattle.rfc3550.specs.Returned.{Stepper}
use Rattle.reception.specs.Reception.{reception_of, update_of, block_is, report_of}
use Rattle.reception.specs.declared.reception.Reception.{Reception}
use Rattle.reception.specs.declared.reception.Update.{Update}
use Rattle.report.specs.declared.report_block.ReportBlock.{ReportBlock}

-- a call with its arguments and what it returned
pub data Call : Type 0 where
  updated : ℕ → ℕ → ℕ → Update → Call
  asked : ℕ → ℕ → ℕ → Option (ReportBlock × Reception) → Call

abbrev pub happening_of : Call → Happening
happening_of (updated seq timestamp arrival u) = packet seq timestamp arrival
happening_of (asked ssrc lsr dlsr r) = block ssrc lsr dlsr

abbrev pub reply_of : Call → Reply
reply_of (updated seq timestamp arrival u) = packet_reply u.accepted
reply_of (asked ssrc lsr dlsr (Some (b, r))) = block_reply (made (block_is b))
reply_of (asked ssrc lsr dlsr None) = block_reply in_probation

abbrev pub Meets : Reception → Call → Type 0
Meets s (updated seq timestamp arrival u) = (seq < 65536) × (update_of u ≡ update (reception_of s) seq timestamp arrival)
Meets s (asked ssrc lsr dlsr r) = report_of (reception_of s) r ≡ report_block (reception_of s) ssrc lsr dlsr

-- the state that it returned; in probation that is the one handed in
abbrev pub next : Reception → Call → Reception
next s (updated seq timestamp arrival u) = u.reception
next s (asked ssrc lsr dlsr (Some (b, r))) = r
next s (asked ssrc lsr dlsr None) = s

abbrev pub receptions : Stepper
receptions = record { H = Reception; R = Call; Meets = Meets; next = next }
