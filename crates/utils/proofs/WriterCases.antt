-- The cases of what `writer` lays down, each from what the code has tested or called.
use Rattle.rfc3550.proofs.Prelude.{rules, ℕ, zero, suc, ◌+◌, ◌-◌, ◌*◌, ◌/◌, ◌%◌, ◌^◌, ◌<◌, ◌≤◌, ◌≡◌, refl, sym, ap, ◌∙◌, Bool, true, false, List, [], ◌∷◌, ◌++◌, div-one, add-one, arith, eq-eqb, ne_eqb, ltb-true, ltb-false, le-leb, lt-leb, length, take, drop, set, get_or, replicate, length-drop, length-set, length-replicate, replicate-append-replicate, drop-cons, drop-drop, take-add, take-length, length-take-le, leb, ltb}
use borrow.Rule.Slice.PartMut.{put_mid}
use Rattle.std.specs.Int.{bytes_high_first}
use Rattle.rfc3550.specs.Bytes.{be, store}
use Rattle.rfc3550.specs.Packet.{padding_bit, fill}
use Rattle.rfc3550.specs.Write.{padding_ok, padding_bytes}
use Rattle.rfc3550.proofs.Bytes.{length_be, length_store}
use Rattle.utils.specs.Writer.{first_byte, header}
use Rattle.utils.proofs.WriterStores.{store_nil, store_store, store_over, store_snoc, store_puts, be_bytes}

-- ---- padding

pub padding_odd : (k : ℕ) → (k % 4 ≡ 0 → ⊥) → false ≡ padding_ok k
padding_odd k h = sym (rw (ne_eqb _ _ h))

pub padding_even : (k : ℕ) → k % 4 ≡ 0 → ltb k 256 ≡ padding_ok k
padding_even k h = go (ltb k 256) refl ∙ sym (rw (eq-eqb _ _ h))
  where
    go : (t : Bool) → ltb k 256 ≡ t → ltb k 256 ≡ leb k 252
    go true e = let f = ltb-true k 256 e in e ∙ sym (le-leb k 252 (omega arith))
    go false e = let f = ltb-false k 256 e in e ∙ sym (lt-leb k 252 (omega arith))

bit_some : (k : ℕ) → (k ≡ 0 → ⊥) → padding_bit (padding_bytes k) ≡ 32
bit_some zero h = absurd (h refl)
bit_some (suc zero) h = refl
bit_some (suc (suc k)) h = refl

pub first_plain : (k n : ℕ) → k ≡ 0 → 128 + n ≡ first_byte k n
first_plain k n e = rw e

pub first_padded : (k n : ℕ) → (k ≡ 0 → ⊥) → 160 + n ≡ first_byte k n
first_padded k n h = rw (bit_some k h)

padding_some : (k : ℕ) → (k ≡ 0 → ⊥) → padding_bytes k ≡ replicate (k - 1) 0 ++ (k ∷ [])
padding_some zero h = absurd (h refl)
padding_some (suc k) h = let e : suc k - 1 ≡ k = omega arith in rw e

pub padding_none : (at k : ℕ) (l : List ℕ) → k ≡ 0 → l ≡ store at (padding_bytes k) l
padding_none at k l e = rw e (sym (store_nil at l))

pub padding_laid : (at k : ℕ) (l l₁ : List ℕ) → (k ≡ 0 → ⊥) → at + k ≤ length l → l₁ ≡ store at (replicate (k - 1) 0) l → set l₁ (at + (k - 1)) k ≡ store at (padding_bytes k) l
padding_laid at k l l₁ h f e = rw (e, padding_some k h) (store_snoc at (k - 1) k (replicate (k - 1) 0) l (length-replicate _ _) (omega arith))

-- ---- header

pub header_laid : (k n t size first : ℕ) (l l₁ : List ℕ) → first ≡ first_byte k n → 4 ≤ length l → l₁ ≡ store 2 (be 2 (size / 4 - 1)) (set (set l 0 first) 1 t) → l₁ ≡ store 0 (header k n t size) l
header_laid k n t size first l l₁ e h f =
    f ∙ rw (e, store_puts 0 (first_byte k n) (t ∷ []) l (omega arith)) (store_store 0 2 (first_byte k n ∷ t ∷ []) (be 2 (size / 4 - 1)) l refl (rw length_be (omega arith)))

-- ---- numbers

pub number_laid : (w at v : ℕ) (bs l l₁ : List ℕ) → v < 256 ^ w → bs ≡ bytes_high_first w v → l₁ ≡ store at bs l → l₁ ≡ store at (be w v) l
number_laid w at v bs l l₁ h e f = f ∙ ap (λ (x : List ℕ). store at x l) (e ∙ sym (be_bytes w v h))

-- bytes that are the same
pub same_laid : (at : ℕ) (bs cs l l₁ : List ℕ) → bs ≡ cs → l₁ ≡ store at bs l → l₁ ≡ store at cs l
same_laid at bs cs l l₁ e f = f ∙ ap (λ (x : List ℕ). store at x l) e

-- ---- bytes

-- a part of a buffer with other bytes in its place
pub part_laid : (at k : ℕ) (bs cs l : List ℕ) → bs ≡ cs → k ≡ length cs → put_mid at k l bs ≡ store at cs l
unfolding store
part_laid at k bs cs l e h = rw (e, h, drop-drop (length cs) at l)

pub zeros_laid : (at k n : ℕ) (bs l : List ℕ) → k ≡ n → bs ≡ replicate k 0 → put_mid at k l bs ≡ store at (replicate n 0) l
zeros_laid at k n bs l e f = part_laid at k bs (replicate n 0) l (rw e at f) (rw (length-replicate {A = ℕ} n 0) e)

-- the first k bytes of src are stored
pub record Copying (at : ℕ) (src l l₁ : List ℕ) (k : ℕ) : Type 0 where
  pub within : k ≤ length src
  pub laid : l₁ ≡ store at (take k src) l

module _ (at : ℕ) (src l : List ℕ) where
  pub copying_start : Copying at src l l 0
  copying_start = record { within = omega arith; laid = sym (store_nil at l) }

module _ (at : ℕ) (src l : List ℕ) (s : at + length src ≤ length l) where
  -- w bytes of src from index j on, of which the first k - j are stored already
  copied : (w j k : ℕ) (l₁ l₂ : List ℕ) → j ≤ k → k ≤ j + w → j + w ≤ length src → l₂ ≡ store (at + j) (take w (drop j src)) l₁ → l₁ ≡ store at (take k src) l → l₂ ≡ store at (take (j + w) src) l
  copied w j k l₁ l₂ f g h e v =
      let d : length (drop j src) ≡ length src - j = length-drop j src in
      let a : length (take j src) ≡ j = length-take-le j src (omega arith) in
      let b : length (take (k - j) (drop j src)) ≡ k - j = length-take-le (k - j) (drop j src) (omega arith) in
      let x : length (take w (drop j src)) ≡ w = length-take-le w (drop j src) (omega arith) in
      let m : length (store at (take j src) l) ≡ length l = length_store at (take j src) l (omega arith) in
      let t : take k src ≡ take j src ++ take (k - j) (drop j src) =
      let z : k ≡ j + (k - j) = omega arith in
      ap (λ (n : ℕ). take n src) z ∙ take-add j (k - j) src in
      let o : l₁ ≡ store (at + j) (take (k - j) (drop j src)) (store at (take j src) l) =
      v ∙ rw t (sym (store_store at (at + j) (take j src) (take (k - j) (drop j src)) l (omega arith) (omega arith))) in
      e ∙ rw (o, store_over (at + j) (take (k - j) (drop j src)) (take w (drop j src)) (store at (take j src) l) (omega arith) (omega arith), take-add j w src)
      (store_store at (at + j) (take j src) (take w (drop j src)) l (omega arith) (omega arith))

  -- w bytes more
  pub copying_again : (w k : ℕ) (l₁ l₂ : List ℕ) → Copying at src l l₁ k → k + w ≤ length src → l₂ ≡ store (at + k) (take w (drop k src)) l₁ → Copying at src l l₂ (k + w)
  copying_again w k l₁ l₂ c h e = record { within = h; laid = copied w k k l₁ l₂ (omega arith) (omega arith) h e c.laid }

  -- the last w bytes, once all before them are stored
  pub copying_last : (w k : ℕ) (l₁ l₂ l₃ : List ℕ) → Copying at src l l₁ k → l₂ ≡ l₁ → w ≤ length src → length src ≤ k + w → l₃ ≡ store (at + (length src - w)) (take w (drop (length src - w) src)) l₂ → l₃ ≡ store at src l
  copying_last w k l₁ l₂ l₃ c d f g e =
      let i : k ≤ length src = c.within in
      let z : length src - w + w ≡ length src = omega arith in
      rw (z, take-length) at (copied w (length src - w) k l₁ l₃ (omega arith) (omega arith) (omega arith) (rw d at e) c.laid)

  -- w bytes and w more
  pub copied_on : (w k j : ℕ) (l₁ l₂ : List ℕ) → j ≡ k + w → k + (w + w) ≤ length src → l₁ ≡ store (at + k) (take w (drop k src)) l → l₂ ≡ store (at + j) (take w (drop j src)) l₁ → l₂ ≡ store (at + k) (take (w + w) (drop k src)) l
  copied_on w k j l₁ l₂ q h d e =
      let n : length (take w (drop k src)) ≡ w = length-take-le w (drop k src) (rw length-drop (omega arith)) in
      let m : length (take w (drop (k + w) src)) ≡ w = length-take-le w (drop (k + w) src) (rw length-drop (omega arith)) in
      let t : take (w + w) (drop k src) ≡ take w (drop k src) ++ take w (drop (k + w) src) = take-add w w (drop k src) ∙ rw (drop-drop w k src) in
      rw (q, d) at e ∙ rw t (store_store (at + k) (at + (k + w)) (take w (drop k src)) (take w (drop (k + w) src)) l (omega arith) (omega arith))

  -- the first and the last w bytes
  pub copied_twice : (w : ℕ) (l₁ l₂ : List ℕ) → l₁ ≡ store (at + 0) (take w (drop 0 src)) l → l₂ ≡ store (at + (length src - w)) (take w (drop (length src - w) src)) l₁ → w ≤ length src → length src ≤ w + w → l₂ ≡ store at src l
  copied_twice w l₁ l₂ d e h f = copying_last w (0 + w) l₁ l₁ l₂ (copying_again w 0 l l₁ (copying_start at src l) (omega arith) d) refl h (omega arith) e

module _ (at : ℕ) (l : List ℕ) where
  pub byte_alone : (src : List ℕ) → 0 < length src → length src < 2 → at + length src ≤ length l → set l at (get_or src 0 0) ≡ store at src l
  byte_alone (b ∷ []) e f h = store_puts at b [] l h
  byte_alone [] e f h = absurd (omega arith)
  byte_alone (b ∷ x ∷ src) e f h = absurd (omega arith)

  pub bytes_none : (src : List ℕ) → length src ≤ 0 → l ≡ store at src l
  bytes_none [] h = sym (store_nil at l)
  bytes_none (b ∷ src) h = absurd (omega arith)

  -- what is laid up to the word boundary, as numbers of two and four bytes or one by one
  pub fill_four : at % 4 ≡ 0 → (l₁ : List ℕ) → l₁ ≡ store at (be 4 0) l → l₁ ≡ store at (replicate (fill at) 0) l
  unfolding be
  fill_four z l₁ e = rw z e

  pub fill_two : at % 4 ≡ 2 → (l₁ : List ℕ) → l₁ ≡ store at (be 2 0) l → l₁ ≡ store at (replicate (fill at) 0) l
  unfolding be
  fill_two z l₁ e = rw z e

  pub fill_three : at % 4 ≡ 1 → at + fill at ≤ length l → (l₁ : List ℕ) → l₁ ≡ store (at + 1) (be 2 0) (set l at 0) → l₁ ≡ store at (replicate (fill at) 0) l
  unfolding be
  fill_three z h l₁ e = rw z (e ∙ rw (store_puts at 0 [] l (omega arith)) (store_store at (at + 1) (0 ∷ []) (0 ∷ 0 ∷ []) l (omega arith) (omega arith)))

  pub fill_one : (at % 4 ≡ 0 → ⊥) → (at % 4 ≡ 1 → ⊥) → (at % 4 ≡ 2 → ⊥) → at + fill at ≤ length l → set l at 0 ≡ store at (replicate (fill at) 0) l
  fill_one y z n h = let q : at % 4 ≡ 3 = omega arith in rw q (store_puts at 0 [] l (omega arith))

pub ruleset writer = (rules, padding_odd, padding_even, first_plain, first_padded, padding_none, padding_laid, header_laid, number_laid, part_laid, zeros_laid, same_laid, byte_alone, bytes_none)

pub ruleset fills = (writer, fill_four, fill_two, fill_three, fill_one)
