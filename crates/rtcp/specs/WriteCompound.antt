-- The compound writer as C gets it. Its state is a lent list of numbers: the length so far, then a flag each for padded, CNAME and closed, set where
-- it is not 0. A call leaves the state of the writer after it, and on a refusal the one that it was lent.
use Rattle.std.specs.Prelude.{ℕ, List, [], ◌∷◌, get_or, ltb}
use Rattle.rfc3550.specs.Answer.{Answer, ok, refused}
use Rattle.rfc3550.specs.Writer.{Writer}
use Rattle.rtcp.specs.declared.write_compound.RtcpCall.{RtcpCall}
use Rattle.rtcp.specs.Result.{number_of, first_of, second_of, bit}

abbrev pub writer_in : List ℕ → Writer
writer_in s = record { len = get_or s 0 0; padded = ltb 0 (get_or s 1 0); cname = ltb 0 (get_or s 2 0); closed = ltb 0 (get_or s 3 0) }

abbrev pub writer_out : Writer → List ℕ
writer_out w = w.len ∷ bit w.padded ∷ bit w.cname ∷ bit w.closed ∷ []

abbrev pub state_after : List ℕ → Answer (Unit {0}) → Writer → List ℕ
state_after s (ok u) w = writer_out w
state_after s (refused r) w = s

abbrev pub call_result : Answer (Unit {0}) → RtcpCall
call_result a = record { number = number_of a; first = first_of a; second = second_of a }

-- of the answer and the writer after it: the result, and the state that is left
abbrev pub call_with_state : List ℕ → Answer (Unit {0}) × Writer → RtcpCall × List ℕ
call_with_state s x = (call_result x.0, state_after s x.0 x.1)

-- with the buffer that is left
abbrev pub call_with_buffer : List ℕ → Answer (Unit {0}) × Writer × List ℕ → RtcpCall × List ℕ × List ℕ
call_with_buffer s x = (call_result x.0, state_after s x.0 x.1, x.2)
