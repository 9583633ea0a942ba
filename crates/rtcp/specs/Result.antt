-- What every result of C has first: the paper's number, 0 where it is done, and the two details. On a refusal all that follows is 0.
use Rattle.std.specs.Prelude.{ℕ, Bool}
use Rattle.std.specs.Int.{from_bool}
use Rattle.rfc3550.specs.Answer.{Refusal, refusal, Answer, ok, refused}
use Rattle.utils.specs.Error.{number_in}

abbrev pub first_in : Refusal → ℕ
first_in (refusal number first second) = first

abbrev pub second_in : Refusal → ℕ
second_in (refusal number first second) = second

module _ {A : Type 0} where
  abbrev pub number_of : Answer A → ℕ
  number_of (ok a) = 0
  number_of (refused r) = number_in r

  abbrev pub first_of : Answer A → ℕ
  first_of (ok a) = 0
  first_of (refused r) = first_in r

  abbrev pub second_of : Answer A → ℕ
  second_of (ok a) = 0
  second_of (refused r) = second_in r

  -- a field of what is handed over
  abbrev pub field_or : {B : Type 0} → B → (A → B) → Answer A → B
  field_or none f (ok a) = f a
  field_or none f (refused r) = none

  abbrev pub field : (A → ℕ) → Answer A → ℕ
  field f a = field_or 0 f a

-- a bool as C gets it
abbrev pub bit : Bool → ℕ
bit = from_bool
