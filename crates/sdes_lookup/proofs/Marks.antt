-- The turns that mark the answers of one chunk.
use Rattle.rfc3550.proofs.Prelude.{ℕ, zero, suc, ◌+◌, ◌-◌, ◌<◌, ◌≤◌, ◌≡◌, refl, sym, ap, ◌∙◌, Bool, true, false, not, ◌&&◌, List, [], ◌∷◌, ◌++◌, append_assoc, add-one, arith, rules, eq-eqb, ne_eqb, lt-ltb, eqb, ltb, length, get_or, set, take, drop, replicate, length-replicate, length-set, replicate-append-replicate, drop_of_length-le, drop-cons, set_at, take-append-drop}
use lib.Seq.{take-suc, take-suc-set, drop-set-lt}
use Rattle.rfc3550.specs.Answer.{pick}
use Rattle.sdes_chunk.specs.declared.chunk.SdesChunk.{SdesChunk}
use Rattle.sdes_lookup.specs.Lookup.{marked, unanswered_in}

-- ---- how many have no answer yet

unanswered_set : (n i k : ℕ) (l : List ℕ) → i < n → i < length l → get_or l i 0 ≡ 255 → (k ≡ 255 → ⊥) → unanswered_in n l ≡ suc (unanswered_in n (set l i k))
unfolding unanswered_in
unanswered_set zero i k l h m e z = absurd (omega arith)
unanswered_set (suc n) i k [] h m e z = absurd (omega arith)
unanswered_set (suc n) zero k (a ∷ l) h m e z = rw (eq-eqb a 255 e, ne_eqb k 255 z) (omega arith)
unanswered_set (suc n) (suc i) k (a ∷ l) h m e z = omega (arith, unanswered_set n i k l (omega arith) (omega arith) e z)

-- ---- marking

pub record Marking (k ssrc : ℕ) (ssrcs l₀ : List ℕ) (i left : ℕ) (l : List ℕ) : Type 0 where
  pub within : i ≤ length ssrcs
  pub fits : length ssrcs ≤ length l
  pub long : length l ≡ length l₀
  pub low : k < 255
  pub same : marked k ssrc ssrcs l₀ ≡ take i l ++ marked k ssrc (drop i ssrcs) (drop i l)
  pub counted : left ≡ unanswered_in (length ssrcs) l

pub mark_start : (k ssrc left : ℕ) (ssrcs l : List ℕ) → length ssrcs ≤ length l → k < 255 → left ≡ unanswered_in (length ssrcs) l → Marking k ssrc ssrcs l 0 left l
mark_start k ssrc left ssrcs l h m e = record { within = omega arith; fits = h; long = refl; low = m; same = refl; counted = e }

module _ (k ssrc : ℕ) (ssrcs l₀ : List ℕ) (i left : ℕ) (l : List ℕ) (g : Marking k ssrc ssrcs l₀ i left l) where
  pub mark_long : length l ≡ length l₀
  mark_long = g.long

  pub mark_done : length ssrcs ≤ i → (l ≡ marked k ssrc ssrcs l₀) × (left ≡ unanswered_in (length ssrcs) l)
  unfolding marked
  mark_done h = (sym (g.same ∙ rw (drop_of_length-le ssrcs {i = i} h) (take-append-drop i l)), g.counted)

  module _ (h : i < length ssrcs) where
    pub mark_room : i < length l
    mark_room = omega (arith, g.fits)

    turn : (x : ℕ) (l₁ : List ℕ) → x ≡ pick (eqb ssrc (get_or ssrcs i 0) && eqb (get_or l i 0) 255) k (get_or l i 0) → take (suc i) l₁ ≡ take i l ++ (x ∷ []) → drop (suc i) l₁ ≡ drop (suc i) l
        → marked k ssrc ssrcs l₀ ≡ take (suc i) l₁ ++ marked k ssrc (drop (suc i) ssrcs) (drop (suc i) l₁)
    unfolding marked
    turn x l₁ q t d =
        g.same
        ∙ rw (drop-cons ssrcs i 0 h, drop-cons l i 0 mark_room, ← q, t, d) (sym (append_assoc (take i l) (x ∷ []) (marked k ssrc (drop (suc i) ssrcs) (drop (suc i) l))))

    module _ (left₁ : ℕ) (l₁ : List ℕ) where
      -- the answer stays as it is
      stays : get_or l i 0 ≡ pick (eqb ssrc (get_or ssrcs i 0) && eqb (get_or l i 0) 255) k (get_or l i 0) → l₁ ≡ l → left₁ ≡ left → Marking k ssrc ssrcs l₀ (i + 1) left₁ l₁
      stays q e f = rw (e, f) (record {
        within = omega arith;
        fits = g.fits;
        long = g.long;
        low = g.low;
        same = rw add-one (turn (get_or l i 0) l q (take-suc l i 0 mark_room) refl);
        counted = g.counted;
      })

      pub mark_other : (get_or ssrcs i 0 ≡ ssrc → ⊥) → l₁ ≡ l → left₁ ≡ left → Marking k ssrc ssrcs l₀ (i + 1) left₁ l₁
      mark_other z = stays (rw (ne_eqb ssrc (get_or ssrcs i 0) (λ e. z (sym e))))

      pub mark_stands : get_or ssrcs i 0 ≡ ssrc → (get_or l i 0 ≡ 255 → ⊥) → l₁ ≡ l → left₁ ≡ left → Marking k ssrc ssrcs l₀ (i + 1) left₁ l₁
      mark_stands e z = stays (rw (eq-eqb ssrc (get_or ssrcs i 0) (sym e), ne_eqb (get_or l i 0) 255 z))

    module _ (z : get_or l i 0 ≡ 255) where
      fewer : unanswered_in (length ssrcs) l ≡ suc (unanswered_in (length ssrcs) (set l i k))
      fewer = unanswered_set (length ssrcs) i k l h mark_room z (λ e. omega (arith, g.low))

      pub mark_some : 1 ≤ left
      mark_some = omega (arith, fewer, g.counted)

      pub mark_new : (left₁ : ℕ) (l₁ : List ℕ) → get_or ssrcs i 0 ≡ ssrc → l₁ ≡ set l i k → left₁ ≡ left - 1 → Marking k ssrc ssrcs l₀ (i + 1) left₁ l₁
      mark_new left₁ l₁ e q f = rw (q, f) (record {
        within = omega arith;
        fits = simp length-set g.fits;
        long = simp length-set g.long;
        low = g.low;
        same = rw add-one (turn k (set l i k) (rw (eq-eqb ssrc (get_or ssrcs i 0) (sym e), eq-eqb (get_or l i 0) 255 z)) (take-suc-set l i k mark_room) (drop-set-lt (suc i) l i k (omega arith)));
        counted = omega (arith, fewer, g.counted);
      })

module _ (k : ℕ) (c : SdesChunk) (ssrcs l : List ℕ) where
  pub visit_passes : c.cname ≡ 0 → l ≡ pick (ltb 0 c.cname) (marked k c.ssrc ssrcs l) l
  visit_passes e = rw e

  pub visit_answers : (l₁ : List ℕ) → (c.cname ≡ 0 → ⊥) → l₁ ≡ marked k c.ssrc ssrcs l → l₁ ≡ pick (ltb 0 c.cname) (marked k c.ssrc ssrcs l) l
  visit_answers l₁ z e = rw (lt-ltb 0 c.cname (omega arith)) e

pub ruleset marks = (rules, mark_start, mark_long, mark_room, mark_some, visit_passes, visit_answers)
