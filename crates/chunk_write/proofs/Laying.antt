-- The cases of items and chunks laid one after the other, and of a lone chunk, each from what the code has tested or called.
use Rattle.std.specs.Prelude.{Option, None, Some}
use Rattle.rfc3550.proofs.Prelude.{rules, ℕ, suc, ◌+◌, ◌-◌, ◌*◌, ◌%◌, ◌<◌, ◌≤◌, ◌^◌, ◌≡◌, refl, sym, ap, ◌∙◌, Bool, true, false, List, [], ◌∷◌, ◌++◌, append-nil, add-zero, add_assoc, zero-add, add-sub_cancel_left, add-one, arith, eq-eqb, ne_eqb, eqb-true, eqb-false, length, take, drop, get_or, replicate, length-append, length-take, length-drop, length-replicate, drop_of_length-le, drop-cons, drop-drop, get_or-drop, get_or-take, take_all, take-take, length-take-le, leb, eqb}
use Rattle.rfc3550.specs.Answer.{Refusal, Answer, ok, refused, refusal, need, ◌>>◌, pick}
use Rattle.rfc3550.specs.Bytes.{be, sum, store}
use Rattle.rfc3550.specs.Packet.{fill, item, priv, item_bytes, items_bytes, chunk_bytes, chunks_bytes}
use Rattle.rfc3550.specs.Write.{LentItem, lent_items, lent_chunks, item_given, items_given, chunk_given, chunks_given, item_tests, items_tests, items_agree, item_size, chunk_size}
use Rattle.rfc3550.proofs.Answers.{need_inv, then_inv, ok_injective}
use Rattle.rfc3550.proofs.Bytes.{length_be, length_store}
use Rattle.utils.specs.Error.{value_in}
use Rattle.utils.proofs.Parts.{drop_take}
use Rattle.utils.proofs.WriterStores.{store_nil, store_store, store_part}
use Rattle.utils.proofs.WriterPackets.{parts_laid}
use Rattle.chunk_write.specs.Sizes.{item_length, size_of, between, too_large, items_refused, boundary_above, chunks_from, at_most, chunks_end, ChunksMeasured, HasRoom}
use Rattle.chunk_write.specs.Lists.{Within, PartFits, lent_at, PartLaid, laid_items, ItemsFit, ItemsLaid, laid_chunk, ChunkFits, ChunkLaid, ChunkFitsAt, ChunkLaidAt, laid_chunks, ChunksFit}
use Rattle.chunk_write.specs.declared.chunks.LaidEnd.{LaidEnd}
use Rattle.chunk_write.proofs.Items.{SizeKnown, size_known, item_is_lem, length_item}
use Rattle.chunk_write.proofs.Sizes.{agreed_listed, sum_next, sum_split, agreed, items_take, items_drop, tests_split, length_chunk_of, chunks_are, refusal_of, end_agreed, end_disagreed}

-- ---- one item among others

module _ (t p v from : ℕ) (bs : List ℕ) (at : ℕ) (l : List ℕ) (f : PartFits t p v from (length bs) at (length l)) where
  length_part : length (take (length l - at) (drop at l)) ≡ length l - at
  length_part = length-take-le (length l - at) (drop at l) (rw length-drop (omega arith))

  prefix_long : length (take p (drop from bs)) ≡ p
  prefix_long = length-take-le p (drop from bs) (rw length-drop (omega (arith, f.bytes)))

  value_long : length (take v (drop (from + p) bs)) ≡ v
  value_long = length-take-le v (drop (from + p) bs) (rw length-drop (omega (arith, f.bytes)))

  laid : (r : ℕ) (last : List ℕ) → r ≡ item_length t p v → last ≡ store 0 (item_bytes (item_given (lent_at t p v from bs))) (take (length l - at) (drop at l)) → PartLaid t p v from bs at l r (take at l ++ (last ++ drop (length l - at) (drop at l)))
  laid r last z b =
      let n : length (item_bytes (item_given (lent_at t p v from bs))) ≡ item_length t p v = length_item t (take p (drop from bs)) (take v (drop (from + p) bs)) ∙ rw (prefix_long, value_long) in
      record { size = z; bytes = rw b (store_part at (item_bytes (item_given (lent_at t p v from bs))) l (omega (arith, n, f.room))); ends = omega (arith, f.room); taken = f.bytes }

  known : SizeKnown t p v (item_length t p v)
  known = size_known t p v (item_length t p v) f.passed

  module _ (z : t ≡ 8) where
    text : take (from + p + v - from) (drop from bs) ≡ take (p + v) (drop from bs)
    text = let n : from + p + v - from ≡ p + v = omega arith in rw n

    text_long : length (take (p + v) (drop from bs)) ≡ p + v
    text_long = length-take-le (p + v) (drop from bs) (rw length-drop (omega (arith, f.bytes)))

    priv_long : item_length t p v ≡ 3 + p + v
    priv_long = rw (eq-eqb _ _ z)

    pub part_priv_fits : (p ≤ length (take (from + p + v - from) (drop from bs))) × (length (take (from + p + v - from) (drop from bs)) ≤ 254) × (3 + length (take (from + p + v - from) (drop from bs)) ≤ length (take (length l - at) (drop at l)))
    part_priv_fits = rw (text, text_long, length_part) (omega arith, known.priv z, omega (arith, priv_long, f.room))

    pub part_priv_laid : (last : List ℕ)
        → last ≡ store 0 (item_bytes (priv (take p (take (from + p + v - from) (drop from bs))) (drop p (take (from + p + v - from) (drop from bs))))) (take (length l - at) (drop at l))
        → PartLaid t p v from bs at l (3 + p + v) (take at l ++ (last ++ drop (length l - at) (drop at l)))
    part_priv_laid last y =
        let a : take p (take (p + v) (drop from bs)) ≡ take p (drop from bs) = take-take p (p + v) (drop from bs) (omega arith) in
        let b : drop p (take (p + v) (drop from bs)) ≡ take v (drop (from + p) bs) = drop_take p (p + v) (drop from bs) ∙ rw (add-sub_cancel_left p v, drop-drop p from bs) in
        let e : item_given (lent_at t p v from bs) ≡ priv (take p (drop from bs)) (take v (drop (from + p) bs)) = rw (eq-eqb _ _ z) in
        laid (3 + p + v) last (sym priv_long) (rw e (rw (text, a, b) at y))

  module _ (z : t ≡ 8 → ⊥) where
    other : take (from + p + v - (from + p)) (drop (from + p) bs) ≡ take v (drop (from + p) bs)
    other = rw (add-sub_cancel_left (from + p) v)

    other_long : item_length t p v ≡ 2 + v
    other_long = rw (ne_eqb _ _ z)

    pub part_other_fits : (length (take (from + p + v - (from + p)) (drop (from + p) bs)) ≤ 255) × (2 + length (take (from + p + v - (from + p)) (drop (from + p) bs)) ≤ length (take (length l - at) (drop at l)))
    part_other_fits = rw (other, value_long, length_part) (known.plain z, omega (arith, other_long, f.room))

    pub part_other_laid : (last : List ℕ)
        → last ≡ store 0 (item_bytes (item t (take (from + p + v - (from + p)) (drop (from + p) bs)))) (take (length l - at) (drop at l))
        → PartLaid t p v from bs at l (2 + v) (take at l ++ (last ++ drop (length l - at) (drop at l)))
    part_other_laid last y =
        let e : item_given (lent_at t p v from bs) ≡ item t (take v (drop (from + p) bs)) = rw (ne_eqb _ _ z) in
        laid (2 + v) last (sym other_long) (rw e (rw other at y))

-- ---- items one after the other

abbrev pub left : List ℕ → List ℕ → List ℕ → List ℕ → ℕ → ℕ → List LentItem
left ts ps vs bs i from = lent_items (drop i ts) (drop i ps) (drop i vs) (drop from bs)

left_next : (ts ps vs bs : List ℕ) (i from : ℕ) → i < length ts → left ts ps vs bs i from ≡ lent_at (get_or ts i 0) (get_or ps i 0) (get_or vs i 0) from bs ∷ left ts ps vs bs (i + 1) (from + get_or ps i 0 + get_or vs i 0)
unfolding lent_items
left_next ts ps vs bs i from h = rw (drop-cons ts i 0 h) (simp (get_or-drop, add-zero, drop-drop, add_assoc, add-one))

pub record Laying (o : ℕ) (ts ps vs bs l : List ℕ) (i at from : ℕ) (l₁ : List ℕ) : Type 0 where
  pub within : i ≤ length ts
  pub long : length l₁ ≡ length l
  pub used : from + (sum (drop i ps) + sum (drop i vs)) ≡ sum ps + sum vs
  pub tests : items_tests (left ts ps vs bs i from) ≡ ok tt
  pub size : at + length (items_bytes (items_given (left ts ps vs bs i from))) ≡ o + length (laid_items ts ps vs bs)
  pub rest : store at (items_bytes (items_given (left ts ps vs bs i from))) l₁ ≡ store o (laid_items ts ps vs bs) l

module _ (o : ℕ) (ts ps vs bs l : List ℕ) (in-l : o ≤ length l) (f : ItemsFit ts ps vs bs (length l - o)) where
  pub laying_start : Laying o ts ps vs bs l 0 o 0 l
  laying_start = record { within = omega arith; long = refl; used = omega arith; tests = f.tests; size = omega arith; rest = refl }

  module _ (i at from : ℕ) (l₁ : List ℕ) (w : Laying o ts ps vs bs l i at from l₁) where
    module _ (h : i < length ts) (p v : ℕ) (ep : p ≡ get_or ps i 0) (ev : v ≡ get_or vs i 0) where
      next : left ts ps vs bs i from ≡ lent_at (get_or ts i 0) p v from bs ∷ left ts ps vs bs (i + 1) (from + p + v)
      next = rw (ep, ev) (left_next ts ps vs bs i from h)

      bytes_in : from + p + v + (sum (drop (i + 1) ps) + sum (drop (i + 1) vs)) ≡ sum ps + sum vs
      bytes_in =
          let a = sum_next ps i (omega (arith, f.listed.prefixes)) in
          let b = sum_next vs i (omega (arith, f.listed.values)) in
          omega (arith, w.used)

      first_length : length (item_bytes (item_given (lent_at (get_or ts i 0) p v from bs))) ≡ item_length (get_or ts i 0) p v
      first_length =
          let g = f.bytes in
          let b = bytes_in in
          length_item (get_or ts i 0) (take p (drop from bs)) (take v (drop (from + p) bs))
          ∙ rw (length-take-le p (drop from bs) (rw length-drop (omega arith)), length-take-le v (drop (from + p) bs) (rw length-drop (omega arith)))

      size_split : at + (item_length (get_or ts i 0) p v + length (items_bytes (items_given (left ts ps vs bs (i + 1) (from + p + v))))) ≡ o + length (laid_items ts ps vs bs)
      unfolding items_given items_bytes
      size_split =
          let a = length-append (item_bytes (item_given (lent_at (get_or ts i 0) p v from bs))) (items_bytes (items_given (left ts ps vs bs (i + 1) (from + p + v)))) in
          let b = first_length in
          let z : at + length (item_bytes (item_given (lent_at (get_or ts i 0) p v from bs)) ++ items_bytes (items_given (left ts ps vs bs (i + 1) (from + p + v)))) ≡ o + length (laid_items ts ps vs bs) = rw next at w.size in
          omega arith

      first_passed : item_tests (lent_at (get_or ts i 0) p v from bs) ≡ ok tt
      unfolding items_tests
      first_passed = (then_inv _ _ (rw next at w.tests)).0

      pub laying_fits : PartFits (get_or ts i 0) p v from (length bs) at (length l₁)
      unfolding item_size ◌>>◌
      laying_fits =
          let g = f.bytes in
          let b = bytes_in in
          let lp : length (take p (drop from bs)) ≡ p = length-take-le p (drop from bs) (rw length-drop (omega arith)) in
          let lv : length (take v (drop (from + p) bs)) ≡ v = length-take-le v (drop (from + p) bs) (rw length-drop (omega arith)) in
          let s : item_size (lent_at (get_or ts i 0) p v from bs) ≡ ok (item_length (get_or ts i 0) p v) = rw (first_passed, first_length) in
          let q : size_of (get_or ts i 0) p v ≡ ok (item_length (get_or ts i 0) p v) = sym (item_is_lem (get_or ts i 0) (take p (drop from bs)) (take v (drop (from + p) bs)) ∙ rw (lp, lv)) ∙ s in
          record { bytes = omega arith; passed = q; room = omega (arith, size_split, f.room, w.long) }

      pub laying_again : (r : ℕ) (l₂ : List ℕ) → PartLaid (get_or ts i 0) p v from bs at l₁ r l₂ → Laying o ts ps vs bs l (i + 1) (at + r) (from + p + v) l₂
      unfolding items_tests items_given items_bytes
      laying_again r l₂ y =
          let fl = first_length in
          let sz = size_split in
          let rs = y.size in
          let g = f.room in
          let k = w.long in
          let s : store (at + r) (items_bytes (items_given (left ts ps vs bs (i + 1) (from + p + v)))) l₂
          ≡ store at (item_bytes (item_given (lent_at (get_or ts i 0) p v from bs)) ++ items_bytes (items_given (left ts ps vs bs (i + 1) (from + p + v)))) l₁ =
          rw y.bytes (store_store at (at + r) (item_bytes (item_given (lent_at (get_or ts i 0) p v from bs))) (items_bytes (items_given (left ts ps vs bs (i + 1) (from + p + v)))) l₁ (omega arith) (omega arith)) in
          record {
            within = omega arith;
            long = ap length y.bytes ∙ length_store at (item_bytes (item_given (lent_at (get_or ts i 0) p v from bs))) l₁ (omega arith) ∙ w.long;
            used = bytes_in;
            tests = (then_inv _ _ (rw next at w.tests)).1;
            size = omega arith;
            rest = s ∙ (rw next at w.rest);
          }

    pub laying_done : length ts ≤ i → ItemsLaid o 0 ts ps vs bs l (record { end = at; taken = from }) l₁
    unfolding lent_items items_given items_bytes sum
    laying_done h =
        let z : drop i ts ≡ [] = drop_of_length-le ts {i = i} h in
        let zp : drop i ps ≡ [] = drop_of_length-le ps {i = i} (omega (arith, f.listed.prefixes)) in
        let zv : drop i vs ≡ [] = drop_of_length-le vs {i = i} (omega (arith, f.listed.values)) in
        let u : from + 0 ≡ sum ps + sum vs = rw (zp, zv) at w.used in
        let s : at + 0 ≡ o + length (laid_items ts ps vs bs) = rw z at w.size in
        let r : store at [] l₁ ≡ store o (laid_items ts ps vs bs) l = rw z at w.rest in
        record { size = omega arith; used = omega arith; bytes = sym (store_nil at l₁) ∙ r }

-- ---- a part of the lists, by its indices in the whole

length_range : {A : Type 0} (i j : ℕ) (xs : List A) → j ≤ length xs → length (take (j - i) (drop i xs)) ≡ j - i
length_range i j xs h = length-take-le (j - i) (drop i xs) (rw length-drop (omega arith))

range_item : (i₀ i j : ℕ) (xs : List ℕ) → i₀ ≤ i → i < j → get_or (between i₀ j xs) (i - i₀) 0 ≡ get_or xs i 0
range_item i₀ i j xs h f =
    let z : i₀ + (i - i₀) ≡ i = omega arith in
    get_or-take (j - i₀) (drop i₀ xs) (i - i₀) 0 (omega arith) ∙ get_or-drop i₀ xs (i - i₀) 0 ∙ ap (λ (k : ℕ). get_or xs k 0) z

pub record LayingPart (o : ℕ) (ts ps vs bs l : List ℕ) (i₀ j from₀ i at from : ℕ) (l₁ : List ℕ) : Type 0 where
  pub past : i₀ ≤ i
  pub most : i ≤ j
  pub after : from₀ ≤ from
  pub is : Laying o (between i₀ j ts) (between i₀ j ps) (between i₀ j vs) (drop from₀ bs) l (i - i₀) at (from - from₀) l₁

module _ (o : ℕ) (ts ps vs bs l : List ℕ) (i₀ j from₀ : ℕ) (b : Within ts ps vs bs i₀ j from₀) (q : o ≤ length l) (f : ItemsFit (between i₀ j ts) (between i₀ j ps) (between i₀ j vs) (drop from₀ bs) (length l - o)) where
  pub range_start : LayingPart o ts ps vs bs l i₀ j from₀ i₀ o from₀ l
  range_start =
      let z : i₀ - i₀ ≡ 0 = omega arith in
      let y : from₀ - from₀ ≡ 0 = omega arith in
      record { past = omega arith; most = b.order; after = omega arith; is = rw (z, y) (laying_start o (between i₀ j ts) (between i₀ j ps) (between i₀ j vs) (drop from₀ bs) l q f) }

  module _ (i at from : ℕ) (l₁ : List ℕ) (w : LayingPart o ts ps vs bs l i₀ j from₀ i at from l₁) where
    module _ (h : i < j) (p v : ℕ) (ep : p ≡ get_or ps i 0) (ev : v ≡ get_or vs i 0) where
      among : i - i₀ < length (between i₀ j ts)
      among = rw (length_range i₀ j ts b.within) (let k = w.past in omega arith)

      first_prefix : p ≡ get_or (between i₀ j ps) (i - i₀) 0
      first_prefix = ep ∙ sym (range_item i₀ i j ps w.past h)

      first_value : v ≡ get_or (between i₀ j vs) (i - i₀) 0
      first_value = ev ∙ sym (range_item i₀ i j vs w.past h)

      bytes_after : drop (from - from₀) (drop from₀ bs) ≡ drop from bs
      bytes_after = let k = w.after in let z : from₀ + (from - from₀) ≡ from = omega arith in drop-drop (from - from₀) from₀ bs ∙ rw z

      value_after : drop (from - from₀ + p) (drop from₀ bs) ≡ drop (from + p) bs
      value_after = let k = w.after in let z : from₀ + (from - from₀ + p) ≡ from + p = omega arith in drop-drop (from - from₀ + p) from₀ bs ∙ rw z

      pub range_fits : PartFits (get_or ts i 0) p v from (length bs) at (length l₁)
      range_fits =
          let y = laying_fits o (between i₀ j ts) (between i₀ j ps) (between i₀ j vs) (drop from₀ bs) l q f (i - i₀) at (from - from₀) l₁ w.is among p v first_prefix first_value in
          let x : PartFits (get_or ts i 0) p v (from - from₀) (length (drop from₀ bs)) at (length l₁) = rw (range_item i₀ i j ts w.past h) at y in
          let k = w.after in
          let n = length-drop from₀ bs in
          let z = b.bytes in
          record { bytes = omega (arith, x.bytes); passed = x.passed; room = x.room }

      pub range_again : (r : ℕ) (l₂ : List ℕ) → PartLaid (get_or ts i 0) p v from bs at l₁ r l₂ → LayingPart o ts ps vs bs l i₀ j from₀ (i + 1) (at + r) (from + p + v) l₂
      range_again r l₂ y =
          let k = w.after in
          let g = w.past in
          let n = length-drop from₀ bs in
          let t = range_item i₀ i j ts w.past h in
          let e : lent_at (get_or (between i₀ j ts) (i - i₀) 0) p v (from - from₀) (drop from₀ bs) ≡ lent_at (get_or ts i 0) p v from bs = rw (t, bytes_after, value_after) in
          let x : PartLaid (get_or (between i₀ j ts) (i - i₀) 0) p v (from - from₀) (drop from₀ bs) at l₁ r l₂ =
          record { size = rw t y.size; bytes = y.bytes ∙ ap (λ (z : LentItem). store at (item_bytes (item_given z)) l₁) (sym e); ends = y.ends; taken = omega (arith, y.taken) } in
          let a : i - i₀ + 1 ≡ i + 1 - i₀ = omega arith in
          let c : from - from₀ + p + v ≡ from + p + v - from₀ = omega arith in
          record {
            past = omega arith;
            most = omega arith;
            after = omega arith;
            is = rw (a, c) at (laying_again o (between i₀ j ts) (between i₀ j ps) (between i₀ j vs) (drop from₀ bs) l q f (i - i₀) at (from - from₀) l₁ w.is among p v first_prefix first_value r l₂ x);
          }

    pub range_done : j ≤ i → ItemsLaid o from₀ (between i₀ j ts) (between i₀ j ps) (between i₀ j vs) (drop from₀ bs) l (record { end = at; taken = from }) l₁
    range_done h =
        let y = laying_done o (between i₀ j ts) (between i₀ j ps) (between i₀ j vs) (drop from₀ bs) l q f (i - i₀) at (from - from₀) l₁ w.is (rw (length_range i₀ j ts b.within) (omega arith)) in
        record { size = y.size; used = omega (arith, y.used, w.after); bytes = y.bytes }

-- ---- a chunk

module _ (ts ps vs bs l : List ℕ) (f : ChunkFits ts ps vs bs (length l)) where
  pub chunk_items : (n : ℕ) → n ≡ length l → ItemsFit ts ps vs bs (n - 4)
  chunk_items n e = record { listed = f.listed; bytes = f.bytes; tests = f.tests; room = omega (arith, f.room) }

  pub chunk_start : (n : ℕ) → n ≡ length l → 4 ≤ n
  chunk_start n e = omega (arith, f.room)

  module _ (from : ℕ) (l₁ l₂ : List ℕ) (r : LaidEnd) (y : ItemsLaid 4 from ts ps vs bs l₁ r l₂) where
    pub chunk_boundary : length l < 2 ^ 64 → boundary_above r.end < 2 ^ 64
    chunk_boundary h = rw y.size (omega (arith, f.room))

    pub chunk_fill : (n : ℕ) → n ≡ length l → boundary_above r.end ≤ n
    chunk_fill n z = rw z (rw y.size f.room)

    pub chunk_laid : (ssrc : ℕ) (e : ℕ) (l₃ : List ℕ) → l₁ ≡ store 0 (be 4 ssrc) l → l₃ ≡ store r.end (replicate (fill r.end) 0) l₂ → e ≡ boundary_above r.end
        → ChunkLaid ssrc from ts ps vs bs l (record { end = e; taken = r.taken }) l₃
    unfolding chunk_bytes
    chunk_laid ssrc e l₃ e₁ e₂ q =
        let g = f.room in
        let b = length_be 4 ssrc in
        let n : length l₁ ≡ length l = ap length e₁ ∙ length_store 0 (be 4 ssrc) l (omega arith) in
        let s = y.size in
        let z : length (replicate {A = ℕ} (4 - r.end % 4) 0) ≡ 4 - r.end % 4 = length-replicate _ _ in
        let p₁ = parts_laid 4 r.end (laid_items ts ps vs bs) (replicate (4 - r.end % 4) 0) l₁ l₂ l₃ y.bytes e₂ (omega arith) (omega arith) in
        let k : length (laid_items ts ps vs bs ++ replicate (4 - r.end % 4) 0) ≡ r.end - 4 + (4 - r.end % 4) = length-append (laid_items ts ps vs bs) (replicate (4 - r.end % 4) 0) ∙ omega arith in
        let p₂ = parts_laid 0 4 (be 4 ssrc) (laid_items ts ps vs bs ++ replicate (4 - r.end % 4) 0) l l₁ l₃ e₁ p₁ (omega arith) (omega arith) in
        record { size = omega (arith, length_chunk_of ssrc (lent_items ts ps vs bs)); used = y.used; bytes = p₂ ∙ rw s }

-- ---- one chunk among others

module _ (ts ps vs bs : List ℕ) (i j from at : ℕ) (l : List ℕ) (f : ChunkFitsAt ts ps vs bs i j from at (length l)) where
  length_left : length (take (length l - at) (drop at l)) ≡ length l - at
  length_left = length-take-le (length l - at) (drop at l) (rw length-drop (omega arith))

  pub chunk_at_fits : Within ts ps vs bs i j from
      × ChunkFits (between i j ts) (between i j ps) (between i j vs) (drop from bs) (length (take (length l - at) (drop at l)))
  chunk_at_fits = rw length_left (record { order = f.order; within = f.within; lists = f.listed; bytes = f.bytes }, f.fits)

  pub chunk_at_start : at ≤ length l
  chunk_at_start = f.start

  pub chunk_at_laid : (ssrc : ℕ) (r : LaidEnd) (last : List ℕ)
      → ChunkLaid ssrc from (between i j ts) (between i j ps) (between i j vs) (drop from bs) (take (length l - at) (drop at l)) r last
      → ChunkLaidAt ssrc ts ps vs bs i j from at l r (take at l ++ (last ++ drop (length l - at) (drop at l)))
  chunk_at_laid ssrc r last y =
      let z : r.end ≡ length (laid_chunk ssrc (take (j - i) (drop i ts)) (take (j - i) (drop i ps)) (take (j - i) (drop i vs)) (drop from bs)) = y.size in
      let b : last ≡ store 0 (laid_chunk ssrc (take (j - i) (drop i ts)) (take (j - i) (drop i ps)) (take (j - i) (drop i vs)) (drop from bs)) (take (length l - at) (drop at l)) = y.bytes in
      let n = length_chunk_of ssrc (lent_items (take (j - i) (drop i ts)) (take (j - i) (drop i ps)) (take (j - i) (drop i vs)) (drop from bs)) in
      let d : length (drop from bs) ≡ length bs - from = length-drop from bs in
      record {
        size = z;
        used = y.used;
        bytes = rw b (store_part at (laid_chunk ssrc (take (j - i) (drop i ts)) (take (j - i) (drop i ps)) (take (j - i) (drop i vs)) (drop from bs)) l (omega (arith, f.fits.room, f.start)));
        ends = omega (arith, f.fits.room, f.start);
        taken = omega (arith, f.fits.bytes, f.bytes, y.used);
      }

-- ---- the chunks laid one after the other

abbrev pub chunks_left : List ℕ → List ℕ → List ℕ → List ℕ → List ℕ → List ℕ → ℕ → ℕ → ℕ → List ℕ
chunks_left ss cs ts ps vs bs k i from = chunks_bytes (chunks_given (lent_chunks (drop k ss) (drop k cs) (left ts ps vs bs i from)))

pub record Chunking (o : ℕ) (ss cs ts ps vs bs l : List ℕ) (k i at from : ℕ) (l₁ : List ℕ) : Type 0 where
  pub within : k ≤ length ss
  pub long : length l₁ ≡ length l
  pub items : i + sum (drop k cs) ≡ length ts
  pub used : from + (sum (drop i ps) + sum (drop i vs)) ≡ sum ps + sum vs
  pub tests : items_tests (left ts ps vs bs i from) ≡ ok tt
  pub size : at + length (chunks_left ss cs ts ps vs bs k i from) ≡ o + length (laid_chunks ss cs ts ps vs bs)
  pub rest : store at (chunks_left ss cs ts ps vs bs k i from) l₁ ≡ store o (laid_chunks ss cs ts ps vs bs) l

module _ (o : ℕ) (ss cs ts ps vs bs l : List ℕ) (f : ChunksFit o ss cs ts ps vs bs (length l)) where
  pub chunking_start : Chunking o ss cs ts ps vs bs l 0 0 o 0 l
  chunking_start = record { within = omega arith; long = refl; items = omega (arith, f.items); used = omega arith; tests = f.tests; size = refl; rest = refl }

  module _ (k i at from : ℕ) (l₁ : List ℕ) (w : Chunking o ss cs ts ps vs bs l k i at from l₁) where
    module _ (h : k < length ss) (c : ℕ) (e : c ≡ get_or cs k 0) where
      counts_next : c + sum (drop (k + 1) cs) ≡ sum (drop k cs)
      counts_next = rw e (sym (sum_next cs k (omega (arith, f.counts))))

      lists_long : (length (drop i ps) ≡ length (drop i ts)) × (length (drop i vs) ≡ length (drop i ts))
      lists_long = (simp (length-drop, f.listed.prefixes), simp (length-drop, f.listed.values))

      -- the items of this chunk, and those after it
      here : take c (left ts ps vs bs i from) ≡ lent_items (take (i + c - i) (drop i ts)) (take (i + c - i) (drop i ps)) (take (i + c - i) (drop i vs)) (drop from bs)
      here = rw (add-sub_cancel_left i c) (items_take c (drop i ts) (drop i ps) (drop i vs) (drop from bs) lists_long.0 lists_long.1)

      there : (u : ℕ) → u ≡ sum (take c (drop i ps)) + sum (take c (drop i vs)) → drop c (left ts ps vs bs i from) ≡ left ts ps vs bs (i + c) (from + u)
      there u q = items_drop c (drop i ts) (drop i ps) (drop i vs) (drop from bs) lists_long.0 lists_long.1 ∙ rw q (simp drop-drop)

      split : chunks_left ss cs ts ps vs bs k i from
          ≡ chunk_bytes (chunk_given (record { ssrc = get_or ss k 0; items = take c (left ts ps vs bs i from) })) ++ chunks_bytes (chunks_given (lent_chunks (drop (k + 1) ss) (drop (k + 1) cs) (drop c (left ts ps vs bs i from))))
      unfolding lent_chunks chunks_given chunks_bytes
      split = rw (drop-cons ss k 0 h, e) (simp (get_or-drop, add-zero, drop-drop, add-one))

      passed : (items_tests (take c (left ts ps vs bs i from)) ≡ ok tt) × (items_tests (drop c (left ts ps vs bs i from)) ≡ ok tt)
      passed = then_inv _ _ (sym (tests_split c (left ts ps vs bs i from)) ∙ w.tests)

      room_split : at + (length (chunk_bytes (chunk_given (record { ssrc = get_or ss k 0; items = take c (left ts ps vs bs i from) }))) + length (chunks_bytes (chunks_given (lent_chunks (drop (k + 1) ss) (drop (k + 1) cs) (drop c (left ts ps vs bs i from)))))) ≤ length l
      room_split =
          let z : at + length (chunk_bytes (chunk_given (record { ssrc = get_or ss k 0; items = take c (left ts ps vs bs i from) })) ++ chunks_bytes (chunks_given (lent_chunks (drop (k + 1) ss) (drop (k + 1) cs) (drop c (left ts ps vs bs i from))))) ≡ o + length (laid_chunks ss cs ts ps vs bs) = rw split at w.size in
          omega (arith, f.room, length-append (chunk_bytes (chunk_given (record { ssrc = get_or ss k 0; items = take c (left ts ps vs bs i from) }))) (chunks_bytes (chunks_given (lent_chunks (drop (k + 1) ss) (drop (k + 1) cs) (drop c (left ts ps vs bs i from))))))

      pub chunking_add : length ts < 2 ^ 64 → i + c < 2 ^ 64
      chunking_add q = let n = counts_next in let j = w.items in omega arith

      pub chunking_fits : ChunkFitsAt ts ps vs bs i (i + c) from at (length l₁)
      chunking_fits =
          let n = counts_next in
          let j = w.items in
          let u = w.used in
          let g = w.long in
          let y = f.bytes in
          let ic = add-sub_cancel_left i c in
          let p = sum_split c (drop i ps) in
          let v = sum_split c (drop i vs) in
          let rs = room_split in
          let lc = length_chunk_of (get_or ss k 0) (take c (left ts ps vs bs i from)) in
          let lp : length (take (i + c - i) (drop i ps)) ≡ length (take (i + c - i) (drop i ts)) = simp (length-take, lists_long.0) in
          let lv : length (take (i + c - i) (drop i vs)) ≡ length (take (i + c - i) (drop i ts)) = simp (length-take, lists_long.1) in
          let q : boundary_above (4 + length (items_bytes (items_given (take c (left ts ps vs bs i from))))) ≤ length l₁ - at = omega arith in
          record {
            order = omega arith;
            within = omega arith;
            listed = f.listed;
            start = omega arith;
            bytes = omega arith;
            fits = record {
              listed = record { prefixes = lp; values = lv };
              bytes = rw (length-drop, ic) (omega arith);
              tests = rw here at passed.0;
              room = rw here at q;
            };
          }

      pub chunking_again : (r : LaidEnd) (l₂ : List ℕ) → ChunkLaidAt (get_or ss k 0) ts ps vs bs i (i + c) from at l₁ r l₂ → Chunking o ss cs ts ps vs bs l (k + 1) (i + c) (at + r.end) r.taken l₂
      chunking_again r l₂ y =
          let n = counts_next in
          let j = w.items in
          let u = w.used in
          let g = w.long in
          let ic = add-sub_cancel_left i c in
          let us : r.taken ≡ from + (sum (take c (drop i ps)) + sum (take c (drop i vs))) = rw ic at y.used in
          let d : r.taken - from ≡ sum (take c (drop i ps)) + sum (take c (drop i vs)) = omega arith in
          let tk : from + (r.taken - from) ≡ r.taken = omega arith in
          let p : sum (drop i ps) ≡ sum (take c (drop i ps)) + sum (drop (i + c) ps) = sum_split c (drop i ps) ∙ rw (drop-drop c i ps) in
          let v : sum (drop i vs) ≡ sum (take c (drop i vs)) + sum (drop (i + c) vs) = sum_split c (drop i vs) ∙ rw (drop-drop c i vs) in
          let t = rw tk at (there (r.taken - from) d) in
          let cb : List ℕ = laid_chunk (get_or ss k 0) (take (i + c - i) (drop i ts)) (take (i + c - i) (drop i ps)) (take (i + c - i) (drop i vs)) (drop from bs) in
          let sp : chunks_left ss cs ts ps vs bs k i from ≡ laid_chunk (get_or ss k 0) (take (i + c - i) (drop i ts)) (take (i + c - i) (drop i ps)) (take (i + c - i) (drop i vs)) (drop from bs) ++ chunks_left ss cs ts ps vs bs (k + 1) (i + c) r.taken =
          split ∙ rw (here, t) in
          let z = y.size in
          let e' = y.ends in
          let la = length-append (laid_chunk (get_or ss k 0) (take (i + c - i) (drop i ts)) (take (i + c - i) (drop i ps)) (take (i + c - i) (drop i vs)) (drop from bs)) (chunks_left ss cs ts ps vs bs (k + 1) (i + c) r.taken) in
          let rm : at + length (laid_chunk (get_or ss k 0) (take (i + c - i) (drop i ts)) (take (i + c - i) (drop i ps)) (take (i + c - i) (drop i vs)) (drop from bs) ++ chunks_left ss cs ts ps vs bs (k + 1) (i + c) r.taken) ≡ o + length (laid_chunks ss cs ts ps vs bs) = rw sp at w.size in
          let fr = f.room in
          let s : store (at + r.end) (chunks_left ss cs ts ps vs bs (k + 1) (i + c) r.taken) l₂
          ≡ store at (laid_chunk (get_or ss k 0) (take (i + c - i) (drop i ts)) (take (i + c - i) (drop i ps)) (take (i + c - i) (drop i vs)) (drop from bs) ++ chunks_left ss cs ts ps vs bs (k + 1) (i + c) r.taken) l₁ =
          rw y.bytes (store_store at (at + r.end) (laid_chunk (get_or ss k 0) (take (i + c - i) (drop i ts)) (take (i + c - i) (drop i ps)) (take (i + c - i) (drop i vs)) (drop from bs)) (chunks_left ss cs ts ps vs bs (k + 1) (i + c) r.taken) l₁ (omega arith) (omega arith)) in
          record {
            within = omega arith;
            long = ap length y.bytes ∙ length_store at (laid_chunk (get_or ss k 0) (take (i + c - i) (drop i ts)) (take (i + c - i) (drop i ps)) (take (i + c - i) (drop i vs)) (drop from bs)) l₁ (omega arith) ∙ w.long;
            items = omega arith;
            used = omega arith;
            tests = rw t at passed.1;
            size = omega arith;
            rest = s ∙ (rw sp at w.rest);
          }

    module _ (h : k < length ss) where
      pub chunking_asks : Within ts ps vs bs i (i + get_or cs k 0) from
          × ChunkFits (between i (i + get_or cs k 0) ts) (between i (i + get_or cs k 0) ps) (between i (i + get_or cs k 0) vs) (drop from bs) (length (take (length l₁ - at) (drop at l₁)))
      chunking_asks = chunk_at_fits ts ps vs bs i (i + get_or cs k 0) from at l₁ (chunking_fits h (get_or cs k 0) refl)

      pub chunking_place : (r : LaidEnd) (last : List ℕ)
          → ChunkLaid (get_or ss k 0) from (between i (i + get_or cs k 0) ts) (between i (i + get_or cs k 0) ps) (between i (i + get_or cs k 0) vs) (drop from bs) (take (length l₁ - at) (drop at l₁)) r last
          → length l₁ < 2 ^ 64 → at + r.end < 2 ^ 64
      chunking_place r last y n = let z = (chunk_at_laid ts ps vs bs i (i + get_or cs k 0) from at l₁ (chunking_fits h (get_or cs k 0) refl) (get_or ss k 0) r last y).ends in omega arith

    pub chunking_done : length ss ≤ k → l₁ ≡ store o (laid_chunks ss cs ts ps vs bs) l
    unfolding lent_chunks chunks_given chunks_bytes
    chunking_done h =
        let z : drop k ss ≡ [] = drop_of_length-le ss {i = k} h in
        sym (store_nil at l₁) ∙ (rw z at w.rest)

-- ---- a lone chunk, as the only one

length_lent : (ts ps vs bs : List ℕ) → length (lent_items ts ps vs bs) ≡ length ts
unfolding lent_items
length_lent [] ps vs bs = refl
length_lent (t ∷ ts) ps vs bs = ap suc (length_lent ts (drop 1 ps) (drop 1 vs) (drop (get_or ps 0 0 + get_or vs 0 0) bs))

only : (ssrc : ℕ) (ts ps vs bs : List ℕ) → laid_chunks (ssrc ∷ []) (length ts ∷ []) ts ps vs bs ≡ laid_chunk ssrc ts ps vs bs
unfolding lent_chunks chunks_given chunks_bytes
only ssrc ts ps vs bs = let z : take (length ts) (lent_items ts ps vs bs) ≡ lent_items ts ps vs bs = take_all (length ts) (lent_items ts ps vs bs) (omega (arith, length_lent ts ps vs bs)) in rw (z, append-nil)

module _ (ssrc : ℕ) (ts ps vs bs : List ℕ) where
  chunk_disagree : items_agree ts ps vs bs ≡ false → refused (refusal 24 0 0) ≡ chunk_size ssrc ts ps vs bs
  unfolding chunk_size need ◌>>◌
  chunk_disagree q = simp q

  chunk_agree : items_agree ts ps vs bs ≡ true
      → chunk_size ssrc ts ps vs bs ≡ (items_tests (lent_items ts ps vs bs) >> (need (leb (length (laid_chunk ssrc ts ps vs bs)) 262140) 22 0 0 >> ok (length (laid_chunk ssrc ts ps vs bs))))
  unfolding chunk_size need ◌>>◌
  chunk_agree q = simp q

  pub lone_prefixes : (length ts ≡ length ps → ⊥) → None ≡ value_in (chunk_size ssrc ts ps vs bs)
  lone_prefixes h = ap value_in (chunk_disagree (simp (ne_eqb _ _ h)))

  module _ (ep : length ts ≡ length ps) where
    pub lone_values : (length ts ≡ length vs → ⊥) → None ≡ value_in (chunk_size ssrc ts ps vs bs)
    lone_values h = ap value_in (chunk_disagree (simp (eq-eqb _ _ ep, ne_eqb _ _ h)))

    module _ (ev : length ts ≡ length vs) where
      pub lone_measured : length bs + 3 * length ts + 8 < 2 ^ 64 → length ts * 8 < 2 ^ 64 → ChunksMeasured 0 (length ts ∷ []) ts ps vs (length bs)
      lone_measured h g = record { listed = record { prefixes = sym ep; values = sym ev }; room = omega arith; scaled = g }

      ends_lone : sum ps + sum vs ≡ length bs → chunks_from 0 (length ts ∷ []) ts ps vs ≡ (items_tests (lent_items ts ps vs bs) >> ok (length (laid_chunk ssrc ts ps vs bs)))
      unfolding sum
      ends_lone q = rw (zero-add, only ssrc ts ps vs bs) at (chunks_are 0 (ssrc ∷ []) (length ts ∷ []) ts ps vs bs refl refl (omega arith) (sym ep) (sym ev) (omega arith))

      size_lone : at_most 262140 (chunks_end 0 (length bs) (length ts ∷ []) ts ps vs) ≡ value_in (chunk_size ssrc ts ps vs bs)
      unfolding sum need ◌>>◌
      size_lone = go (eqb (sum ps + sum vs) (length bs)) refl
        where
          tested : (m : Answer (Unit {0})) (k : ℕ) → at_most 262140 (value_in (m >> ok k)) ≡ value_in (m >> (need (leb k 262140) 22 0 0 >> ok k))
          tested (refused r) k = refl
          tested (ok u) k = last (leb k 262140)
            where
              last : (b : Bool) → pick b (Some k) None ≡ value_in (need b 22 0 0 >> ok k)
              last true = refl
              last false = refl

          go : (x : Bool) → eqb (sum ps + sum vs) (length bs) ≡ x → at_most 262140 (chunks_end 0 (length bs) (length ts ∷ []) ts ps vs) ≡ value_in (chunk_size ssrc ts ps vs bs)
          go true q =
              let c : chunks_end 0 (length bs) (length ts ∷ []) ts ps vs ≡ value_in (items_tests (lent_items ts ps vs bs) >> ok (length (laid_chunk ssrc ts ps vs bs))) =
              end_agreed 0 (length bs) (length ts ∷ []) ts ps vs (omega arith) (eqb-true _ _ q) ∙ ap value_in (ends_lone (eqb-true _ _ q)) in
              ap (at_most 262140) c ∙ tested (items_tests (lent_items ts ps vs bs)) (length (laid_chunk ssrc ts ps vs bs)) ∙ sym (ap value_in (chunk_agree (simp (eq-eqb _ _ ep, eq-eqb _ _ ev, q))))
          go false q =
              ap (at_most 262140) (end_disagreed 0 (length bs) (length ts ∷ []) ts ps vs q) ∙ ap value_in (chunk_disagree (simp (eq-eqb _ _ ep, eq-eqb _ _ ev, q)))

      pub lone_size : (o : Option ℕ) → o ≡ at_most 262140 (chunks_end 0 (length bs) (length ts ∷ []) ts ps vs) → o ≡ value_in (chunk_size ssrc ts ps vs bs)
      lone_size o e = e ∙ size_lone

  module _ (t : Bool) (e : t ≡ items_agree ts ps vs bs) where
    pub lone_disagree : t ≡ false → refused (refusal 24 0 0) ≡ chunk_size ssrc ts ps vs bs
    lone_disagree q = chunk_disagree (sym e ∙ q)

    pub lone_why : (k : Refusal) → t ≡ true → value_in (chunk_size ssrc ts ps vs bs) ≡ None → refused k ≡ items_refused ts ps vs → refused k ≡ chunk_size ssrc ts ps vs bs
    unfolding need ◌>>◌
    lone_why k q z h =
        let a = agreed ts ps vs bs t e q in
        let s = chunk_agree (sym e ∙ q) in
        go (items_tests (lent_items ts ps vs bs)) (leb (length (laid_chunk ssrc ts ps vs bs)) 262140) (h ∙ refusal_of ts ps vs bs a.prefixes a.values (omega (arith, a.bytes))) (sym (ap value_in s) ∙ z) ∙ sym s
      where
        go : (m : Answer (Unit {0})) (b : Bool) → refused k ≡ (m >> too_large) → value_in (m >> (need b 22 0 0 >> ok (length (laid_chunk ssrc ts ps vs bs)))) ≡ None
            → refused k ≡ (m >> (need b 22 0 0 >> ok (length (laid_chunk ssrc ts ps vs bs))))
        go (refused r) b f y = f
        go (ok u) true f y = cc
        go (ok u) false f y = f

  lone_known : (n : ℕ) → chunk_size ssrc ts ps vs bs ≡ ok n → (n ≡ length (laid_chunk ssrc ts ps vs bs)) × ((space : ℕ) → n ≤ space → ChunkFits ts ps vs bs space)
  unfolding chunk_size
  lone_known n e =
      let a = need_inv _ _ _ _ _ e in
      let b = then_inv _ _ a.1 in
      let d = need_inv _ _ _ _ _ b.1 in
      let y = agreed ts ps vs bs (items_agree ts ps vs bs) refl a.0 in
      let m : length (laid_chunk ssrc ts ps vs bs) ≡ n = ok_injective d.1 in
      let k = length_chunk_of ssrc (lent_items ts ps vs bs) in
      (sym m, λ space f. record { listed = record { prefixes = y.prefixes; values = y.values }; bytes = omega (arith, y.bytes); tests = b.0; room = omega arith })

  pub lone_fits : (space : ℕ) → HasRoom (chunk_size ssrc ts ps vs bs) space → ChunkFits ts ps vs bs space
  lone_fits space f = (lone_known f.n f.is).1 space f.room

  pub lone_chunks : (space : ℕ) → ChunkFits ts ps vs bs space → ChunksFit 0 (ssrc ∷ []) (length ts ∷ []) ts ps vs bs space
  unfolding sum
  lone_chunks space f = record { counts = refl; items = omega arith; listed = f.listed; bytes = f.bytes; tests = f.tests; room = rw (only ssrc ts ps vs bs) (omega (arith, f.room, length_chunk_of ssrc (lent_items ts ps vs bs))) }

  pub lone_laid : (l l₁ : List ℕ) → l₁ ≡ store 0 (laid_chunks (ssrc ∷ []) (length ts ∷ []) ts ps vs bs) l → l₁ ≡ store 0 (laid_chunk ssrc ts ps vs bs) l
  lone_laid l l₁ e = rw (only ssrc ts ps vs bs) at e

pub ruleset parts = (part_priv_fits, part_priv_laid, part_other_fits, part_other_laid)

pub ruleset ranges = (range_start, range_fits, range_again, range_done)

pub ruleset chunks = (chunk_items, chunk_start, chunk_boundary, chunk_fill, chunk_laid)

pub ruleset chunking = (rules, chunk_at_start, chunk_at_laid, chunking_start, chunking_asks, chunking_place, chunking_fits, chunking_add, chunking_again, chunking_done)

pub ruleset lone = (lone_prefixes, lone_values, lone_measured, lone_size, lone_disagree, lone_why, lone_chunks, lone_laid, agreed_listed)
