-- Laws of mapOk, and of a slice's parts.
use Rattle.rfc3550.proofs.Prelude.{ℕ, ◌-◌, ◌≡◌, refl, sym, ap, List, arith, length, take, drop, length-drop, take_all}
use Rattle.rfc3550.specs.Answer.{Refusal, Answer, ok, refused, ◌>>=◌, map_ok}
use Rattle.utils.proofs.Reading.{map_ok_refused}

-- what `&s[at..]` holds
pub rest_is : (s : List ℕ) (at : ℕ) → take (length s - at) (drop at s) ≡ drop at s
rest_is s at = take_all (length s - at) (drop at s) (rw length-drop (omega arith))

module _ {A B : Type 0} where
  pub map_ok_lem : (f : A → B) (m : Answer A) {a : A} → m ≡ ok a → map_ok f m ≡ ok (f a)
  unfolding map_ok
  map_ok_lem f m e = rw e

  pub map_refused : (f : A → B) (m : Answer A) {r : Refusal} → m ≡ refused r → map_ok f m ≡ refused r
  unfolding map_ok
  map_refused f m e = rw e

  pub map_same : (f g : A → B) (m : Answer A) → ((a : A) → f a ≡ g a) → map_ok f m ≡ map_ok g m
  unfolding map_ok
  map_same f g (ok a) h = ap ok (h a)
  map_same f g (refused r) h = refl

  pub map_refusal : (f : A → B) (m : Answer A) (r : Refusal) → refused r ≡ map_ok f m → m ≡ refused r
  map_refusal f m r e = map_ok_refused f m (sym e)

module _ {A B C : Type 0} where
  pub map_bind : (f : B → C) (g : A → B) (m : Answer A) → map_ok f (◌>>=◌ {B = B} m (λ a. ok (g a))) ≡ map_ok (λ a. f (g a)) m
  unfolding map_ok ◌>>=◌
  map_bind f g (ok a) = refl
  map_bind f g (refused r) = refl
