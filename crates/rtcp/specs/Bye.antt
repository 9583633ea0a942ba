-- BYE packets as C gets them: the tail stands between the reason's end and the padding.
use Rattle.std.specs.Prelude.{ℕ, ◌+◌, ◌-◌}
use Rattle.rfc3550.specs.Answer.{Answer}
use Rattle.bye.specs.declared.Bye.{Bye}
use Rattle.rtcp.specs.declared.read_bye.RtcpBye.{RtcpBye}
use Rattle.rtcp.specs.declared.read_bye.RtcpSource.{RtcpSource}
use Rattle.rtcp.specs.Result.{number_of, first_of, second_of, field, bit}

abbrev pub bye_result : Answer Bye → RtcpBye
bye_result a =
    record {
      number = number_of a;
      first = first_of a;
      second = second_of a;
      n_sources = field (λ x. x.n_sources) a;
      has_reason = field (λ x. bit x.has_reason) a;
      reason = field (λ x. x.reason) a;
      reason_len = field (λ x. x.reason_len) a;
      tail = field (λ x. x.reason + x.reason_len) a;
      tail_len = field (λ x. x.body - (x.reason + x.reason_len)) a;
      body = field (λ x. x.body) a;
      padding_len = field (λ x. x.padding_len) a;
    }

abbrev pub source_result : Answer ℕ → RtcpSource
source_result a = record { number = number_of a; first = first_of a; second = second_of a; ssrc = field (λ x. x) a }
