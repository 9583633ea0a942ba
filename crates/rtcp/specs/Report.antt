-- Reports and their blocks as C gets them. A part is its offset in the caller's bytes and its length.
use Rattle.std.specs.Prelude.{ℕ, ◌-◌, List}
use Rattle.rfc3550.specs.Answer.{Answer, ok, refused}
use Rattle.rfc3550.specs.Loss.{Loss, no_loss}
use Rattle.report.specs.declared.report_block.ReportBlock.{ReportBlock}
use Rattle.report.specs.declared.receiver.ReceiverReport.{ReceiverReport}
use Rattle.report.specs.declared.sender.SenderReport.{SenderReport}
use Rattle.rtcp.specs.declared.read_report.RtcpBlock.{RtcpBlock}
use Rattle.rtcp.specs.declared.read_report.RtcpRr.{RtcpRr}
use Rattle.rtcp.specs.declared.read_report.RtcpSr.{RtcpSr}
use Rattle.rtcp.specs.declared.write_result.RtcpWritten.{RtcpWritten}
use Rattle.rtcp.specs.Result.{number_of, first_of, second_of, field_or, field}
use Rattle.rtcp.specs.WriteResult.{written_result}

abbrev pub block_result : Answer ReportBlock → RtcpBlock
block_result a =
    record {
      number = number_of a;
      first = first_of a;
      second = second_of a;
      ssrc = field (λ b. b.ssrc) a;
      fraction_lost = field (λ b. b.fraction_lost) a;
      cumulative_lost = field_or no_loss (λ b. b.cumulative_lost) a;
      extended_sequence_number = field (λ b. b.extended_sequence_number) a;
      interarrival_jitter = field (λ b. b.interarrival_jitter) a;
      last_sender_report_timestamp = field (λ b. b.last_sender_report_timestamp) a;
      delay_since_last_sender_report_timestamp = field (λ b. b.delay_since_last_sender_report_timestamp) a;
    }

abbrev pub rr_result : Answer ReceiverReport → RtcpRr
rr_result a =
    record {
      number = number_of a;
      first = first_of a;
      second = second_of a;
      ssrc = field (λ r. r.ssrc) a;
      n_reports = field (λ r. r.n_reports) a;
      extension = field (λ r. r.extension) a;
      extension_len = field (λ r. r.body - r.extension) a;
      body = field (λ r. r.body) a;
      padding_len = field (λ r. r.padding_len) a;
    }

abbrev pub sr_result : Answer SenderReport → RtcpSr
sr_result a =
    record {
      number = number_of a;
      first = first_of a;
      second = second_of a;
      ssrc = field (λ r. r.ssrc) a;
      ntp_timestamp = field (λ r. r.ntp_timestamp) a;
      rtp_timestamp = field (λ r. r.rtp_timestamp) a;
      packet_count = field (λ r. r.packet_count) a;
      octet_count = field (λ r. r.octet_count) a;
      n_reports = field (λ r. r.n_reports) a;
      extension = field (λ r. r.extension) a;
      extension_len = field (λ r. r.body - r.extension) a;
      body = field (λ r. r.body) a;
      padding_len = field (λ r. r.padding_len) a;
    }

-- ---- blocks in three lists, by themselves and with the report in one call

abbrev pub blocks_out : Answer ℕ × List ℕ × List Loss × List ℕ → RtcpWritten × List ℕ × List Loss × List ℕ
blocks_out w = (written_result w.0, w.1, w.2, w.3)

-- the report, or why its blocks are not handed over
abbrev pub read_out : {A R : Type 0} → (Answer A → R) → Answer A → Answer ℕ → R
read_out result a (ok n) = result a
read_out result a (refused e) = result (refused e)

abbrev pub read_both : {A R : Type 0} → (Answer A → R) → Answer A → Answer ℕ × List ℕ × List Loss × List ℕ → R × List ℕ × List Loss × List ℕ
read_both result a w = (read_out result a w.0, w.1, w.2, w.3)
