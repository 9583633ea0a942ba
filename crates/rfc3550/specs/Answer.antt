-- Document 01, "When a packet or a call is turned down": a refusal is a number and two 64-bit details, 0 where none is named,
-- and the first refusal in the order wins. A do block of `need` lines is such an order.
use Rattle.std.specs.Prelude.{ℕ, min, Bool, true, false}

infixr 1 ◌>>=◌
infixr 1 ◌>>◌
pub data Refusal : Type 0 where
  refusal : ℕ → ℕ → ℕ → Refusal

pub data Answer (A : Type 0) : Type 0 where
  ok : A → Answer A
  refused : Refusal → Answer A

abbrev pub refuse : {A : Type 0} → ℕ → ℕ → ℕ → Answer A
refuse number first second = refused (refusal number first second)

-- the test must hold, or else the refusal with this number and these details is given
unfoldable pub need : Bool → ℕ → ℕ → ℕ → Answer (Unit {0})
need true number first second = ok tt
need false number first second = refuse number first second

module _ {A B : Type 0} where
  unfoldable pub ◌>>=◌ : Answer A → (A → Answer B) → Answer B
  ◌>>=◌ (ok a) f = f a
  ◌>>=◌ (refused r) f = refused r

  unfoldable pub map_ok : (A → B) → Answer A → Answer B
  map_ok f (ok a) = ok (f a)
  map_ok f (refused r) = refused r

module _ {B : Type 0} where
  unfoldable pub ◌>>◌ : Answer (Unit {0}) → Answer B → Answer B
  ◌>>◌ (ok a) rest = rest
  ◌>>◌ (refused r) rest = refused r

-- the new value after a success; a refusal leaves the old one
abbrev pub after : {A B : Type 0} → Answer A → B → B → B
after (ok a) new old = new
after (refused r) new old = old

-- a detail that is a sum: past 64 bits it is given as 2^64 − 1
abbrev pub capped : ℕ → ℕ
capped n = min n 18446744073709551615

abbrev pub pick : {A : Type 0} → Bool → A → A → A
pick true a b = a
pick false a b = b
