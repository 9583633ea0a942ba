-- Numbers handed over into a lent list: each case from what the code has tested.
use Rattle.std.specs.Prelude.{Result}
use Rattle.std.specs.Result.{IsErrAnd}
use Rattle.std.proofs.lemmas.Result.{err_from_is_err_and}
use Rattle.rfc3550.proofs.Prelude.{ℕ, ◌<◌, ◌≤◌, ◌≡◌, List, arith, le-leb, lt-leb, length}
use Rattle.rfc3550.specs.Answer.{Refusal, refusal, Answer, ok, refused}
use Rattle.rfc3550.specs.Bytes.{store}
use Rattle.utils.specs.Error.{parse_refusal}
use Rattle.utils.specs.List.{listed_of, lay_list}
use Rattle.utils.specs.declared.error.RtcpParseError.{RtcpParseError}
use Rattle.utils.specs.declared.list.ListError.{ListError}
use Rattle.utils.specs.declared.list.ListError.TheVariants as list

pub lay_refused : (x : Answer (List ℕ)) (r : Refusal) (l : List ℕ) → x ≡ refused r → (refused r, l) ≡ lay_list x l
unfolding lay_list
lay_refused x r l e = rw e

-- what reading refuses, handed on by `?`
pub lay_handed : (x : Answer (List ℕ)) (q : Result ℕ ListError) (e : RtcpParseError) (l : List ℕ) → IsErrAnd q (λ (x : ListError). x ≡ list.Refused e) → x ≡ refused (parse_refusal e) → (listed_of q, l) ≡ lay_list x l
lay_handed x q e l h w = let p = err_from_is_err_and q h in rw (p.1, p.2) (lay_refused x (parse_refusal e) l w)

module _ (x : Answer (List ℕ)) (xs l : List ℕ) (n : ℕ) (e : x ≡ ok xs) (c : length xs ≡ n) where
  pub lay_short : length l < n → (refused (refusal 10 n 0), l) ≡ lay_list x l
  unfolding lay_list
  lay_short h = rw (e, ← c, lt-leb (length xs) (length l) (omega (arith, c)))

  pub lay_done : (l₁ : List ℕ) → n ≤ length l → l₁ ≡ store 0 xs l → (ok n, l₁) ≡ lay_list x l
  unfolding lay_list
  lay_done l₁ h q = rw (e, ← c, le-leb (length xs) (length l) (omega (arith, c)), q)
