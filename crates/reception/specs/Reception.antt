-- What the structs and enums of the code say.
use Rattle.std.specs.Prelude.{ℕ, Bool, Option, Some, None}
use Rattle.rfc3550.specs.Packet.{Block}
use Rattle.rfc3550.specs.Reception as rfc
use Rattle.report.specs.declared.report_block.ReportBlock.{ReportBlock}
use Rattle.reception.specs.declared.reception.Reception.{Reception}
use Rattle.reception.specs.declared.reception.Update.{Update}

abbrev pub reception_of : Reception → rfc.Reception
reception_of s =
    record {
      max_seq = s.max_seq;
      cycles = s.cycles;
      base_seq = s.base_seq;
      bad_seq = s.bad_seq;
      probation = s.probation;
      received = s.received;
      expected_prior = s.expected_prior;
      received_prior = s.received_prior;
      transit = s.transit;
      jitter = s.jitter;
    }

abbrev pub update_of : Update → rfc.Reception × Bool
update_of u = (reception_of u.reception, u.accepted)

-- what A.1's update_seq gives where it says this of a packet
abbrev pub after_verdict : rfc.Verdict → rfc.Reception → ℕ → rfc.Reception × Bool
after_verdict v s seq = (rfc.update_seq v s seq, rfc.accepted v)

abbrev pub block_is : ReportBlock → Block
block_is b =
    record {
      ssrc = b.ssrc;
      fraction = b.fraction_lost;
      lost = b.cumulative_lost;
      sequence = b.extended_sequence_number;
      jitter = b.interarrival_jitter;
      lsr = b.last_sender_report_timestamp;
      dlsr = b.delay_since_last_sender_report_timestamp;
    }

-- from the state that was handed in, which stays in probation
abbrev pub report_of : rfc.Reception → Option (ReportBlock × Reception) → rfc.Reported × rfc.Reception
report_of s (Some (b, r)) = (rfc.made (block_is b), reception_of r)
report_of s None = (rfc.in_probation, s)
