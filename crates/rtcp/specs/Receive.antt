-- The state of a source, and what its functions answer, as C gets them.
use Rattle.std.specs.Prelude.{Bool}
use Rattle.rfc3550.specs.Answer.{ok}
use Rattle.rfc3550.specs.Loss.{no_loss}
use Rattle.rfc3550.specs.Reception.{Reception, Reported, in_probation, made}
use Rattle.report.specs.Block.{block_view}
use Rattle.rtcp.specs.declared.read_report.RtcpBlock.{RtcpBlock}
use Rattle.rtcp.specs.declared.receive.RtcpReception.{RtcpReception}
use Rattle.rtcp.specs.declared.receive.RtcpReceptionUpdate.{RtcpReceptionUpdate}
use Rattle.rtcp.specs.declared.receive.RtcpReceptionBlock.{RtcpReceptionBlock}
use Rattle.rtcp.specs.Result.{bit}
use Rattle.rtcp.specs.Report.{block_result}

-- handed in, and handed out
abbrev pub reception_in : RtcpReception → Reception
reception_in s =
    record {
      max_seq = s.max_seq;
      cycles = s.cycles;
      base_seq = s.base_seq;
      bad_seq = s.bad_seq;
      probation = s.probation;
      received = s.received;
      expected_prior = s.expected_prior;
      received_prior = s.received_prior;
      transit = s.transit;
      jitter = s.jitter;
    }

abbrev pub reception_result : Reception → RtcpReception
reception_result s =
    record {
      max_seq = s.max_seq;
      cycles = s.cycles;
      base_seq = s.base_seq;
      bad_seq = s.bad_seq;
      probation = s.probation;
      received = s.received;
      expected_prior = s.expected_prior;
      received_prior = s.received_prior;
      transit = s.transit;
      jitter = s.jitter;
    }

abbrev pub update_result : Reception × Bool → RtcpReceptionUpdate
update_result u = record { reception = reception_result u.0; accepted = bit u.1 }

-- in probation every number of the block is 0
abbrev pub no_block : RtcpBlock
no_block =
    record {
      number = 0;
      first = 0;
      second = 0;
      ssrc = 0;
      fraction_lost = 0;
      cumulative_lost = no_loss;
      extended_sequence_number = 0;
      interarrival_jitter = 0;
      last_sender_report_timestamp = 0;
      delay_since_last_sender_report_timestamp = 0;
    }

abbrev pub report_result : Reported × Reception → RtcpReceptionBlock
report_result (in_probation, s) = record { reception = reception_result s; in_probation = 1; block = no_block }
report_result (made b, s) = record { reception = reception_result s; in_probation = 0; block = block_result (ok (block_view b)) }
