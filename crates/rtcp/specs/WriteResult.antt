-- A size as C gets it, and beside it the buffer that is left.
use Rattle.std.specs.Prelude.{ℕ, List}
use Rattle.rfc3550.specs.Answer.{Answer}
use Rattle.rtcp.specs.declared.write_result.RtcpWritten.{RtcpWritten}
use Rattle.rtcp.specs.Result.{number_of, first_of, second_of, field}

abbrev pub written_result : Answer ℕ → RtcpWritten
written_result a = record { number = number_of a; first = first_of a; second = second_of a; size = field (λ n. n) a }

abbrev pub written_with_buffer : Answer ℕ × List ℕ → RtcpWritten × List ℕ
written_with_buffer w = (written_result w.0, w.1)
