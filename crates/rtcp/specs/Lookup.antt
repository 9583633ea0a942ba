-- A lookup as C gets it, and beside it the answers that are left.
use Rattle.std.specs.Prelude.{ℕ, List}
use Rattle.rfc3550.specs.Answer.{Answer}
use Rattle.rtcp.specs.declared.read_lookup.RtcpLookup.{RtcpLookup}
use Rattle.rtcp.specs.Result.{number_of, first_of, second_of, field}

abbrev pub lookup_result : Answer ℕ → RtcpLookup
lookup_result a = record { number = number_of a; first = first_of a; second = second_of a; visits = field (λ n. n) a }

abbrev pub lookup_with_answers : Answer ℕ × List ℕ → RtcpLookup × List ℕ
lookup_with_answers w = (lookup_result w.0, w.1)
