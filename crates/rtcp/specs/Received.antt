-- What the C functions of a source returned, in turn: each one's ensures, and what it says.
use Rattle.std.specs.Prelude.{ℕ, ◌<◌, ◌≡◌, eqb}
use Rattle.rfc3550.specs.Answer.{pick}
use Rattle.rfc3550.specs.Packet.{Block}
use Rattle.rfc3550.specs.Reception.{in_probation, made, update, report_block}
use Rattle.rfc3550.specs.History.{Happening, packet, block, Reply, packet_reply, block_reply}
use Rattle.rfc3550.specs.Returned.{Stepper}
use Rattle.rtcp.specs.Receive.{reception_in, update_result, report_result}
use Rattle.rtcp.specs.declared.read_report.RtcpBlock.{RtcpBlock}
use Rattle.rtcp.specs.declared.receive.RtcpReception.{RtcpReception}
use Rattle.rtcp.specs.declared.receive.RtcpReceptionUpdate.{RtcpReceptionUpdate}
use Rattle.rtcp.specs.declared.receive.RtcpReceptionBlock.{RtcpReceptionBlock}

-- a call with its arguments and what it returned
pub data Call : Type 0 where
  rtcp_reception_update : ℕ → ℕ → ℕ → RtcpReceptionUpdate → Call
  rtcp_reception_report_block : ℕ → ℕ → ℕ → RtcpReceptionBlock → Call

abbrev pub happening_of : Call → Happening
happening_of (rtcp_reception_update seq timestamp arrival u) = packet seq timestamp arrival
happening_of (rtcp_reception_report_block ssrc lsr dlsr r) = block ssrc lsr dlsr

abbrev pub block_in : RtcpBlock → Block
block_in b =
    record {
      ssrc = b.ssrc;
      fraction = b.fraction_lost;
      lost = b.cumulative_lost;
      sequence = b.extended_sequence_number;
      jitter = b.interarrival_jitter;
      lsr = b.last_sender_report_timestamp;
      dlsr = b.delay_since_last_sender_report_timestamp;
    }

-- 1 is yes
abbrev pub reply_of : Call → Reply
reply_of (rtcp_reception_update seq timestamp arrival u) = packet_reply (eqb u.accepted 1)
reply_of (rtcp_reception_report_block ssrc lsr dlsr r) = block_reply (pick (eqb r.in_probation 1) in_probation (made (block_in r.block)))

abbrev pub Meets : RtcpReception → Call → Type 0
Meets s (rtcp_reception_update seq timestamp arrival u) = (seq < 65536) × (u ≡ update_result (update (reception_in s) seq timestamp arrival))
Meets s (rtcp_reception_report_block ssrc lsr dlsr r) = r ≡ report_result (report_block (reception_in s) ssrc lsr dlsr)

abbrev pub next : RtcpReception → Call → RtcpReception
next s (rtcp_reception_update seq timestamp arrival u) = u.reception
next s (rtcp_reception_report_block ssrc lsr dlsr r) = r.reception

abbrev pub receptions : Stepper
receptions = record { H = RtcpReception; R = Call; Meets = Meets; next = next }
