-- What functions returned, one after the other, for any code: each answer met its function's own contract, and each call got what the last one
-- returned.
use Rattle.std.specs.Prelude.{ℕ, zero, suc, List, [], ◌∷◌}
use Rattle.rfc3550.specs.Answer.{Answer}
use Rattle.rfc3550.specs.Calls.{System, Event}

-- ---- steps of a walk

-- H the walk that is handed in, R the answer to a step
pub record Stepper : Type 1 where
  pub H : Type 0
  pub R : Type 0
  -- the contract of a step
  pub Meets : H → R → Type 0
  -- the walk that the answer returned
  pub next : H → R → H

module _ (k : Stepper) where
  abbrev pub Ran : List k.R → k.H → Type 0
  Ran [] h = Unit {0}
  Ran (r ∷ rs) h = k.Meets h r × Ran rs (k.next h r)

  -- what is seen of each answer, from it and the walk that was handed in
  abbrev pub shown_of : {B : Type 0} → (k.H → k.R → B) → List k.R → k.H → List B
  shown_of see [] h = []
  shown_of see (r ∷ rs) h = see h r ∷ shown_of see rs (k.next h r)

-- the first n of f 0, f 1, ..
abbrev pub firsts : {B : Type 0} → ℕ → (ℕ → B) → List B
firsts zero f = []
firsts (suc n) f = f 0 ∷ firsts n (λ (i : ℕ). f (suc i))

-- ---- calls of a writer

-- H the writer that is handed in, R a call with all that is said of it: its arguments, the buffer at entry and at exit, what it returned
pub record Caller (s : System) : Type 1 where
  pub H : Type 0
  pub R : Type 0
  -- the contract of the call
  pub Meets : H → R → Type 0
  -- the writer that the call returned
  pub next : H → R → H
  -- the same in the system's terms
  pub writer : H → s.W
  pub request : R → s.R
  pub lent : R → List ℕ
  pub answer : R → Answer (Unit {0})
  pub left : R → List ℕ

module _ {s : System} (k : Caller s) where
  -- d is the datagram so far
  abbrev pub Called : List k.R → k.H → List ℕ → Type 0
  Called [] h d = Unit {0}
  Called (r ∷ rs) h d =
      k.Meets h r × s.Lent (k.request r) d (k.lent r) × Called rs (k.next h r) (s.kept (k.request r) (k.answer r) (k.writer (k.next h r)) (k.left r) d)

  abbrev pub events : List k.R → k.H → List (Event s)
  events [] h = []
  events (r ∷ rs) h = record { request = k.request r; lent = k.lent r; answer = k.answer r; next = k.writer (k.next h r); left = k.left r } ∷ events rs (k.next h r)
