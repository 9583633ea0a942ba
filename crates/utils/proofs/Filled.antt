-- A lent list that was filled: the numbers stand at its start, as many as the call says.
use Rattle.rfc3550.proofs.Prelude.{ℕ, Bool, true, false, ◌≡◌, refl, sym, ap, ◌∙◌, List, length, take, drop, take_at, leb}
use Rattle.rfc3550.specs.Answer.{Answer, ok, refused}
use Rattle.rfc3550.proofs.Answers.{ok_injective, refused≢ok}
use Rattle.rfc3550.proofs.Bytes.{store_front}
use Rattle.utils.specs.List.{lay_if, lay_list}

filled_if : (b : Bool) (xs : List ℕ) (n : ℕ) (l l₁ : List ℕ) → (ok n, l₁) ≡ lay_if b xs l → take n l₁ ≡ xs
filled_if true xs n l l₁ e =
    let k : n ≡ length xs = ok_injective (ap (λ (x : Answer ℕ × List ℕ). x.0) e) in
    ap (take n) (ap (λ (x : Answer ℕ × List ℕ). x.1) e ∙ store_front xs l) ∙ take_at xs (drop (length xs) l) n (sym k)
filled_if false xs n l l₁ e = absurd (refused≢ok (sym (ap (λ (x : Answer ℕ × List ℕ). x.0) e)))

pub filled : (a : Answer (List ℕ)) (n : ℕ) (l l₁ : List ℕ) → (ok n, l₁) ≡ lay_list a l → (xs : List ℕ) × (a ≡ ok xs) × (take n l₁ ≡ xs)
unfolding lay_list
filled (ok xs) n l l₁ e = (xs, refl, filled_if (leb (length xs) (length l)) xs n l l₁ e)
filled (refused r) n l l₁ e = absurd (refused≢ok (sym (ap (λ (x : Answer ℕ × List ℕ). x.0) e)))
