-- What a value, or none, says of the answer that it is in.
use Rattle.std.specs.Prelude.{None, Some}
use Rattle.rfc3550.proofs.Prelude.{◌≡◌, refl, sym, ap}
use Rattle.rfc3550.specs.Answer.{Refusal, Answer, ok, refused, map_ok}
use Rattle.utils.specs.Error.{value_in}

module _ {A : Type 0} where
  -- a value came, and so it is the answer
  pub value_is : (m : Answer A) (a : A) → Some a ≡ value_in m → ok a ≡ m
  value_is (ok b) a e = cc
  value_is (refused r) a e = cc

  -- none came, and so there is a refusal
  pub none_refused : (m : Answer A) → value_in m ≡ None → (r : Refusal) × (m ≡ refused r)
  none_refused (ok a) e = cc
  none_refused (refused r) e = (r, refl)

  pub value_found : (m : Answer A) (a : A) → ok a ≡ m → Some a ≡ value_in m
  value_found m a e = ap value_in e

  pub none_found : (m : Answer A) (r : Refusal) → refused r ≡ m → None ≡ value_in m
  none_found m r e = ap value_in e

  module _ {B : Type 0} (f : A → B) where
    -- a view changes no refusal
    pub none_viewed : (m : Answer A) → value_in m ≡ None → None ≡ value_in (map_ok f m)
    unfolding map_ok
    none_viewed (ok a) e = cc
    none_viewed (refused r) e = refl

    pub none_below : (m : Answer A) → None ≡ value_in (map_ok f m) → value_in m ≡ None
    unfolding map_ok
    none_below (ok a) e = cc
    none_below (refused r) e = refl

    pub refused_viewed : (m : Answer A) (r : Refusal) → refused r ≡ m → refused r ≡ map_ok f m
    unfolding map_ok
    refused_viewed m r e = rw (sym e)

pub ruleset values = (value_is, value_found, none_found, none_viewed, none_below, refused_viewed)
