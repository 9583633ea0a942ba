-- Laws of answers: what an accepting do block says of its steps.
use Rattle.rfc3550.proofs.Prelude.{ℕ, Bool, true, false, ◌&&◌, ◌||◌, not, ◌≡◌, refl, sym, subst, ◌⊎◌, inl, inr, T, leb, ltb, le-leb, lt-leb, ltb-true, ltb-false}
use Rattle.rfc3550.specs.Answer.{Refusal, refusal, Answer, ok, refused, refuse, need, ◌>>=◌, ◌>>◌, map_ok}

-- ---- tests

pub true≢false : true ≡ false → ⊥
true≢false e = subst T e tt

pub and_inv : (a b : Bool) → a && b ≡ true → (a ≡ true) × (b ≡ true)
and_inv true b e = (refl, e)
and_inv false b e = absurd (true≢false (sym e))

pub or_inv : (a b : Bool) → not a || b ≡ true → (a ≡ false) ⊎ (b ≡ true)
or_inv true b e = inr e
or_inv false b e = inl refl

pub or_true : (b : Bool) → b || true ≡ true
or_true true = refl
or_true false = refl

pub or_false : (b : Bool) → b || false ≡ b
or_false true = refl
or_false false = refl

pub or_assoc : (a b c : Bool) → (a || b) || c ≡ a || (b || c)
or_assoc true b c = refl
or_assoc false b c = refl

pub not_not : (b : Bool) → b ≡ not (not b)
not_not true = refl
not_not false = refl

pub leb_ltb : (a b : ℕ) → leb a b ≡ not (ltb b a)
leb_ltb a b = go (ltb b a) refl
  where
    go : (x : Bool) → ltb b a ≡ x → leb a b ≡ not x
    go false e = le-leb a b (ltb-false b a e)
    go true e = lt-leb a b (ltb-true b a e)

-- ---- answers

pub ok_injective : {A : Type 0} {a b : A} → ok a ≡ ok b → a ≡ b
ok_injective e = cc

pub refused_injective : {A : Type 0} (r s : Refusal) → ◌≡◌ {A = Answer A} (refused r) (refused s) → r ≡ s
refused_injective r s e = cc

pub refused≢ok : {A : Type 0} {r : Refusal} {a : A} → refused r ≡ ok a → ⊥
refused≢ok h = let z : true ≡ false = cc in true≢false z

pub need_inv : {B : Type 0} (t : Bool) (k d e : ℕ) (r : Answer B) {b : B} → (need t k d e >> r) ≡ ok b → (t ≡ true) × (r ≡ ok b)
unfolding need ◌>>◌
need_inv true k d e r h = (refl, h)
need_inv false k d e r h = absurd (refused≢ok h)

pub need_ok : (t : Bool) (k d e : ℕ) {u : Unit {0}} → need t k d e ≡ ok u → t ≡ true
unfolding need
need_ok true k d e h = refl
need_ok false k d e h = absurd (refused≢ok h)

pub then_inv : {B : Type 0} (m : Answer (Unit {0})) (r : Answer B) {b : B} → (m >> r) ≡ ok b → (m ≡ ok tt) × (r ≡ ok b)
unfolding ◌>>◌
then_inv (ok u) r h = (refl, h)
then_inv (refused x) r h = absurd (refused≢ok h)

-- the value stays a variable for a proof that goes on under a λ, where a let's value would be written out in every goal
pub bind_elim : {A B P : Type 0} (m : Answer A) (f : A → Answer B) {b : B} → (m >>= f) ≡ ok b → ((a : A) → m ≡ ok a → f a ≡ ok b → P) → P
unfolding ◌>>=◌
bind_elim (ok a) f h go = go a refl h
bind_elim (refused x) f h go = absurd (refused≢ok h)

pub map_ok_inv : {A B : Type 0} (f : A → B) (m : Answer A) {b : B} → map_ok f m ≡ ok b → (a : A) × (m ≡ ok a) × (f a ≡ b)
unfolding map_ok
map_ok_inv f (ok a) h = (a, refl, ok_injective h)
map_ok_inv f (refused x) h = absurd (refused≢ok h)

pub then_assoc : {B : Type 0} (m n : Answer (Unit {0})) (x : Answer B) → (m >> (n >> x)) ≡ ((m >> n) >> x)
unfolding ◌>>◌
then_assoc (ok u) n x = refl
then_assoc (refused r) n x = refl

-- ---- a number that is never answered

abbrev pub Never : {A : Type 0} → ℕ → Answer A → Type 0
Never n (ok a) = Unit {0}
Never n (refused (refusal k first second)) = k ≡ n → ⊥

pub never_refused : {A : Type 0} (n : ℕ) (a : Answer A) → Never n a → (first second : ℕ) → a ≡ refuse n first second → ⊥
never_refused n a h first second e = subst (Never n) e h refl

pub never_need : (n : ℕ) (t : Bool) (k first second : ℕ) → (k ≡ n → ⊥) → Never n (need t k first second)
unfolding need
never_need n true k first second h = tt
never_need n false k first second h = h

pub never_then : {B : Type 0} (n : ℕ) (m : Answer (Unit {0})) (r : Answer B) → Never n m → Never n r → Never n (m >> r)
unfolding ◌>>◌
never_then n (ok u) r h k = k
never_then n (refused (refusal k first second)) r h q = h

pub never_bind : {A B : Type 0} (n : ℕ) (m : Answer A) (f : A → Answer B) → Never n m → ((a : A) → Never n (f a)) → Never n (m >>= f)
unfolding ◌>>=◌
never_bind n (ok a) f h k = k a
never_bind n (refused (refusal k first second)) f h q = h
