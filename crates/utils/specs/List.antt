-- Numbers handed over into a lent list: from its start, or a refusal and the list as it was.
use Rattle.std.specs.Prelude.{ℕ, Bool, true, false, List, length, leb, Result, Ok, Err}
use Rattle.rfc3550.specs.Answer.{Answer, ok, refused, refusal}
use Rattle.rfc3550.specs.Bytes.{store}
use Rattle.utils.specs.Error.{parse_refusal}
use Rattle.utils.specs.declared.list.ListError.{ListError}
use Rattle.utils.specs.declared.list.ListError.TheVariants as list

abbrev pub listed_of : Result ℕ ListError → Answer ℕ
listed_of (Ok n) = ok n
listed_of (Err (list.TooShort n)) = refused (refusal 10 n 0)
listed_of (Err (list.Refused e)) = refused (parse_refusal e)

-- 10, with how many numbers there are, where the list is shorter
abbrev pub lay_if : Bool → List ℕ → List ℕ → Answer ℕ × List ℕ
lay_if true xs l = (ok (length xs), store 0 xs l)
lay_if false xs l = (refused (refusal 10 (length xs) 0), l)

unfoldable pub lay_list : Answer (List ℕ) → List ℕ → Answer ℕ × List ℕ
lay_list (ok xs) l = lay_if (leb (length xs) (length l)) xs l
lay_list (refused e) l = (refused e, l)
