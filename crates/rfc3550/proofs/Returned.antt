-- One law for the answers that any code's step function gives in turn: answer i is that of part i, and 25 once all are given. And one for the
-- calls of any code's writer: they are calls as the system's, so what holds of every list of these holds of them.
use Rattle.rfc3550.proofs.Prelude.{ℕ, suc, ◌≡◌, refl, ap, ◌∙◌, subst, List, [], ◌∷◌, map, length}
use Rattle.rfc3550.specs.Answer.{Answer, ok, refused, map_ok}
use Rattle.rfc3550.specs.Read.{nth}
use Rattle.rfc3550.specs.Walk.{gave, walk_after, walked}
use Rattle.rfc3550.specs.Writer.{Writer, fresh}
use Rattle.rfc3550.specs.Book.{empty}
use Rattle.rfc3550.specs.Calls.{System, Made, answers, book_input, booked, compounds}
use Rattle.rfc3550.specs.Returned.{Stepper, Ran, shown_of, firsts, Caller, Called, events}
use Rattle.rfc3550.proofs.Calls.{demand3}

-- ---- steps

module _ {A W B : Type 0} (k : Stepper) (Holds : k.H → Type 0) (step : W → Answer (A × W)) (at : k.H → W) (see : k.H → k.R → B) (view : Answer A → B) where
  -- an answer shows what the step of the definitions gives, and returns the walk after it
  pub record Steps : Type 0 where
    pub shows : (h : k.H) (r : k.R) → Holds h → k.Meets h r → see h r ≡ view (gave (step (at h)))
    pub moves : (h : k.H) (r : k.R) → Holds h → k.Meets h r → Holds (k.next h r) × (at (k.next h r) ≡ walk_after (at h) (step (at h)))

  run : Steps → (rs : List k.R) (h : k.H) (f : ℕ → Answer A) → Holds h → Ran k rs h → ((i : ℕ) → gave (step (walked step (at h) i)) ≡ f i)
      → shown_of k see rs h ≡ firsts (length rs) (λ (i : ℕ). view (f i))
  run c [] h f o m g = refl
  run c (r ∷ rs) h f o m g =
      let n = c.moves h r o m.0 in
      let g' : ((i : ℕ) → gave (step (walked step (at (k.next h r)) i)) ≡ f (suc i)) = λ i. ap (λ (w : W). gave (step (walked step w i))) n.1 ∙ g (suc i) in
      ap (λ (v : B). v ∷ shown_of k see rs (k.next h r)) (c.shows h r o m.0 ∙ ap view (g 0))
      ∙ ap (λ (vs : List B). view (f 0) ∷ vs) (run c rs (k.next h r) (λ (i : ℕ). f (suc i)) n.0 m.1 g')

  -- answer i is what is seen of part i, and of 25 once all are given
  pub runs : Steps → (h : k.H) (xs : List A) → Holds h → ((i : ℕ) → gave (step (walked step (at h) i)) ≡ nth i xs)
      → (rs : List k.R) → Ran k rs h → shown_of k see rs h ≡ firsts (length rs) (λ (i : ℕ). view (nth i xs))
  runs c h xs o g rs m = run c rs h (λ (i : ℕ). nth i xs) o m g

-- code whose answer is a value and the walk after it, or a refusal, which leaves the walk as it was
module _ {A W C B : Type 0} (k : Stepper) (step : W → Answer (A × W)) (at : k.H → W) (walk : W → k.H) (back : (w : W) → at (walk w) ≡ w) (view : A → C)
    (of : k.R → Answer (C × k.H)) (meets : (h : k.H) (r : k.R) → k.Meets h r → of r ≡ map_ok (λ (x : A × W). (view x.0, walk x.1)) (step (at h)))
    (next : (h : k.H) (r : k.R) → k.next h r ≡ walk_after h (of r)) (seen : k.H → C × k.H → B) (part : A → B)
    (same : (h : k.H) (x : A × W) → step (at h) ≡ ok x → seen h (view x.0, walk x.1) ≡ part x.0) where
  shown : (h : k.H) (a : Answer (A × W)) → step (at h) ≡ a → map_ok (seen h) (map_ok (λ (x : A × W). (view x.0, walk x.1)) a) ≡ map_ok part (gave a)
  unfolding map_ok
  shown h (ok x) e = ap ok (same h x e)
  shown h (refused r) e = refl

  moved_on : (h : k.H) (a : Answer (A × W)) → at (walk_after h (map_ok (λ (x : A × W). (view x.0, walk x.1)) a)) ≡ walk_after (at h) a
  unfolding map_ok
  moved_on h (ok x) = back x.1
  moved_on h (refused r) = refl

  steps : Steps k (λ h. Unit {0}) step at (λ h r. map_ok (seen h) (of r)) (map_ok part)
  steps =
      record {
        shows = λ h r o m. ap (map_ok (seen h)) (meets h r m) ∙ shown h (step (at h)) refl;
        moves = λ h r o m. (tt, ap at (next h r ∙ ap (walk_after h) (meets h r m)) ∙ moved_on h (step (at h)));
      }

  pub answers_run : (h : k.H) (xs : List A) → ((i : ℕ) → gave (step (walked step (at h) i)) ≡ nth i xs)
      → (rs : List k.R) → Ran k rs h → shown_of k (λ h r. map_ok (seen h) (of r)) rs h ≡ firsts (length rs) (λ (i : ℕ). map_ok part (nth i xs))
  answers_run h xs g rs m = runs k (λ h. Unit {0}) step at (λ h r. map_ok (seen h) (of r)) (map_ok part) steps h xs tt g rs m

-- ---- calls

module _ {s : System} (k : Caller s) where
  -- the contract of a call is that of the system's call
  abbrev pub Calls : Type 0
  Calls = (h : k.H) (r : k.R) → k.Meets h r → (k.answer r, k.writer (k.next h r), k.left r) ≡ s.call (k.request r) (k.writer h) (k.lent r)

  pub made : Calls → (rs : List k.R) (h : k.H) (d : List ℕ) → Called k rs h d → Made s (events k rs h) (k.writer h) d
  made c [] h d m = tt
  made c (r ∷ rs) h d m = (c h r m.0, m.1, made c rs (k.next h r) _ m.2)

-- for any code whose calls meet the contract of the compound writer's: from a fresh writer each answer is the book's, after it the datagram so
-- far is the book's packets laid end to end, and once closed it is accepted and read as exactly these
pub returned : (k : Caller compounds) → Calls k → (h : k.H) → k.writer h ≡ fresh → (rs : List k.R) → Called k rs h []
    → answers compounds (events k rs h) [] ≡ booked compounds (map (book_input compounds) (events k rs h)) empty
returned k c h e rs m = demand3 (events k rs h) (subst (λ (w : Writer). Made compounds (events k rs h) w []) e (made k c rs h [] m))
