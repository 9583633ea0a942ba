-- The turns over a chunk's items and over its closing zeros, and the chunk.
use Rattle.std.specs.Prelude.{Option, None, Some, is_some, option_map, unwrap_or}
use Rattle.std.specs.Option.{option_or}
use Rattle.std.proofs.lemmas.Option.{none-some}
use Rattle.rfc3550.proofs.Prelude.{ℕ, zero, suc, ◌+◌, ◌-◌, ◌*◌, ◌/◌, ◌%◌, ◌^◌, ◌<◌, ◌≤◌, ◌≡◌, refl, sym, ap, ◌∙◌, subst, ◌≢◌, Bool, true, false, ◌&&◌, ◌||◌, ltb, eqb, List, [], ◌∷◌, arith, add-zero, add_assoc, add-one, rules, le-leb, lt-leb, lt-ltb, le-ltb, ◌↔◌, ltb-true, ltb-false, eq-eqb, ne_eqb, eqb-true, eqb-false, not-true, not-false, length, get_or, take, drop, length-append, length-drop, length-replicate, drop_of_length-le, drop-cons, drop-drop, get_or-drop}
use Rattle.rfc3550.specs.Answer.{Refusal, refusal, Answer, ok, refused, refuse, need, ◌>>◌, ◌>>=◌, map_ok, pick}
use Rattle.rfc3550.specs.Bytes.{val}
use Rattle.rfc3550.specs.Packet.{Item, item_type, item_rest, item_bytes, items_bytes, is_cname, some, Chunk, chunk_bytes, chunk_has_cname, fill}
use Rattle.rfc3550.specs.Read.{read_item, read_fill, read_items, read_chunk}
use Rattle.rfc3550.proofs.Answers.{map_ok_inv, need_inv, bind_elim, ok_injective, refused≢ok, true≢false}
use Rattle.rfc3550.proofs.Bytes.{length_be}
use Rattle.utils.specs.Error.{value_in}
use Rattle.utils.proofs.Values.{value_is, value_found, none_viewed, none_below, refused_viewed}
use Rattle.sdes_chunk.specs.declared.chunk.SdesChunk.{SdesChunk}
use Rattle.sdes_chunk.specs.declared.chunk.ChunkEnd.{ChunkEnd}
use Rattle.sdes_chunk.specs.declared.chunk.Chunks.{Chunks}
use Rattle.sdes_chunk.specs.Item.{item_end, step_end}
use Rattle.sdes_chunk.specs.Chunk.{cname_place, cname_found, chunk_view, chunk_first, zero_at, first_cname, boundary, filled, chunk_end, closed_at, filled_at, ItemsEnd, ZerosEnd, chunks_from}
use Rattle.sdes_chunk.proofs.Answers.{rest_is, map_ok_lem, map_refused, map_refusal, map_same, map_bind}
use Rattle.sdes_chunk.proofs.Items.{Steps, steps_not, steps, end_last}
use Rattle.sdes_chunk.proofs.Readings.{item_in, item_length_lem, item_rest_lem, chunk_in}

abbrev ends : Option ℕ → List ℕ → Answer ChunkEnd
ends known s = map_ok (chunk_end known) (read_chunk s)

pub boundary_is : (at : ℕ) → at / 4 * 4 + 4 ≡ at + fill at
boundary_is at = omega arith

-- ---- the first CNAME

first_none : (cname : Option ℕ) → option_or cname None ≡ cname
first_none None = refl
first_none (Some c) = refl

pub cname_here : (r cname : Option ℕ) (at t n : ℕ) (b : Bool) → r ≡ option_or cname (Some at) → b ≡ is_cname t n → b ≡ true → r ≡ first_cname cname at t n
cname_here r cname at t n b q e h = q ∙ rw (← e, h)

pub cname_none : (cname : Option ℕ) (at t n : ℕ) (b : Bool) → b ≡ is_cname t n → b ≡ false → cname ≡ first_cname cname at t n
cname_none cname at t n b e h = rw (← e, h) (sym (first_none cname))

-- one item in front
first_step : (cname : Option ℕ) (at : ℕ) (p : Option ℕ) (b : Bool) → option_or cname (pick b (Some at) p) ≡ option_or (option_or cname (pick b (Some at) None)) p
first_step (Some c) at p b = refl
first_step None at p true = refl
first_step None at p false = refl

place_step : (b : Bool) (at : ℕ) (p : Option ℕ) (c : Bool) → is_some p ≡ c → is_some (pick b (Some at) p) ≡ (b || c)
place_step true at p c e = refl
place_step false at p c e = e

-- there is a place of a CNAME exactly if some item is one
pub place_some : (at : ℕ) (is : List Item) → is_some (cname_found at is) ≡ some (λ (i : Item). is_cname (item_type i) (length (item_rest i))) is
unfolding cname_found
place_some at [] = refl
place_some at (i ∷ is) =
    place_step (is_cname (item_type i) (length (item_rest i))) at (cname_found (at + length (item_bytes i)) is) _ (place_some (at + length (item_bytes i)) is)

pub chunk_named : (c : Chunk) → is_some (cname_found 4 c.items) ≡ chunk_has_cname c
chunk_named c = place_some 4 c.items

-- as a number: no CNAME stands at 0
number_step : (b : Bool) (at : ℕ) (p : Option ℕ) (n : ℕ) → unwrap_or p 0 ≡ n → unwrap_or (pick b (Some at) p) 0 ≡ pick b at n
number_step true at p n e = refl
number_step false at p n e = e

pub place_number : (at : ℕ) (is : List Item) → unwrap_or (cname_found at is) 0 ≡ cname_place at is
unfolding cname_found cname_place
place_number at [] = refl
place_number at (i ∷ is) = number_step (is_cname (item_type i) (length (item_rest i))) at (cname_found (at + length (item_bytes i)) is) _ (place_number (at + length (item_bytes i)) is)

above_step : (b : Bool) (at n : ℕ) (c : Bool) → 0 < at → ltb 0 n ≡ c → ltb 0 (pick b at n) ≡ (b || c)
above_step true at n c h e = lt-ltb 0 at h
above_step false at n c h e = e

place_above : (at : ℕ) (is : List Item) → 0 < at → ltb 0 (cname_place at is) ≡ some (λ (i : Item). is_cname (item_type i) (length (item_rest i))) is
unfolding cname_place
place_above at [] h = refl
place_above at (i ∷ is) h =
    above_step (is_cname (item_type i) (length (item_rest i))) at (cname_place (at + length (item_bytes i)) is) _ h (place_above (at + length (item_bytes i)) is (omega arith))

pub chunk_cname : (c : Chunk) → ltb 0 (chunk_view c).cname ≡ chunk_has_cname c
chunk_cname c = place_above 4 c.items (omega arith)

pub cname_iff : (c : Chunk) → (0 < (chunk_view c).cname) ↔ (chunk_has_cname c ≡ true)
cname_iff c = (λ h. sym (chunk_cname c) ∙ lt-ltb 0 (chunk_view c).cname h, λ e. ltb-true 0 (chunk_view c).cname (chunk_cname c ∙ e))

-- ---- the turns over the items

-- the chunk's end, where the items left are those of x and the first of them stands at `at`
abbrev seen_at : ℕ → Option ℕ → List Item × List ℕ → ChunkEnd
seen_at at cname x = record { length = at + length (items_bytes x.0) + fill (at + length (items_bytes x.0)); cname = option_or cname (cname_found at x.0) }

-- what is known before each turn: the items that are left give the answer. An item takes two bytes at least, so the bytes left are enough turns
pub record Going (s : List ℕ) (known : Option ℕ) (at : ℕ) (cname : Option ℕ) : Type 0 where
  pub turns : ℕ
  pub enough : length s - at ≤ turns
  pub start : 4 ≤ at
  pub within : at ≤ length s
  pub same : ends known s ≡ map_ok (seen_at at cname) (read_items turns at (drop at s))

chunk_size_lem : (c : Chunk) → length (chunk_bytes c) ≡ 4 + length (items_bytes c.items) + fill (4 + length (items_bytes c.items))
unfolding chunk_bytes
chunk_size_lem c = simp (length-append, length_be, length-replicate) (omega arith)

pub items_start : (s : List ℕ) (known : Option ℕ) → 4 ≤ length s → Going s known 4 known
unfolding read_chunk need ◌>>◌
items_start s known h =
    record {
      turns = length s;
      enough = omega arith;
      start = omega arith;
      within = h;
      same = rw (le-leb 4 (length s) h)
          (map_bind (chunk_end known) (λ (x : List Item × List ℕ). (record { ssrc = val (take 4 s); items = x.0 }, x.1)) (read_items (length s) 4 (drop 4 s))
          ∙ map_same _ _ (read_items (length s) 4 (drop 4 s)) (λ x. rw (chunk_size_lem (record { ssrc = val (take 4 s); items = x.0 }))));
    }

items_closed₁ : (t : ℕ) (s : List ℕ) (at : ℕ) (cname : Option ℕ) → length s - at ≤ t → at < length s → get_or s at 0 ≡ 0
    → map_ok (closed_at at cname) (read_fill (fill at) at (drop at s)) ≡ map_ok (seen_at at cname) (read_items t at (drop at s))
unfolding read_items items_bytes cname_found
items_closed₁ zero s at cname h l z = absurd (omega arith)
items_closed₁ (suc t) s at cname h l z =
    let e : drop at s ≡ 0 ∷ drop (suc at) s = rw (← z) (drop-cons s at 0 l) in
    rw e (sym (map_bind (seen_at at cname) (λ (r : List ℕ). ([], r)) (read_fill (fill at) at (0 ∷ drop (suc at) s))
    ∙ map_same _ _ (read_fill (fill at) at (0 ∷ drop (suc at) s)) (λ r. rw (add-zero at, first_none cname))))

-- no byte is left: the items are refused as the zeros are
items_ended₁ : (t : ℕ) (s : List ℕ) (at : ℕ) (cname : Option ℕ) → length s ≤ at
    → map_ok (closed_at at cname) (read_fill (fill at) at (drop at s)) ≡ map_ok (seen_at at cname) (read_items t at (drop at s))
unfolding read_fill read_items map_ok
items_ended₁ zero s at cname l = let n : fill at ≡ suc (3 - at % 4) = omega arith in rw (drop_of_length-le s l, n)
items_ended₁ (suc t) s at cname l = let n : fill at ≡ suc (3 - at % 4) = omega arith in rw (drop_of_length-le s l, n)

-- a nonzero byte: an item, and what follows it
items_first : (t at : ℕ) (bs : List ℕ) → 0 < length bs → get_or bs 0 0 ≢ 0
    → read_items (suc t) at bs ≡ ◌>>=◌ {B = List Item × List ℕ} (read_item bs) (λ x. ◌>>=◌ {B = List Item × List ℕ} (read_items t (at + length (item_bytes x.0)) x.1) (λ y. ok (x.0 ∷ y.0, y.1)))
unfolding read_items
items_first t at [] l h = absurd (omega arith)
items_first t at (zero ∷ bs) l h = absurd (h refl)
items_first t at (suc b ∷ bs) l h = refl

module _ (t : ℕ) (s : List ℕ) (at : ℕ) (cname : Option ℕ) (l : at < length s) (z : get_or s at 0 ≡ 0 → ⊥) where
  first_here : read_items (suc t) at (drop at s)
      ≡ ◌>>=◌ {B = List Item × List ℕ} (read_item (drop at s)) (λ x. ◌>>=◌ {B = List Item × List ℕ} (read_items t (at + length (item_bytes x.0)) x.1) (λ y. ok (x.0 ∷ y.0, y.1)))
  first_here = items_first t at (drop at s) (rw length-drop (omega arith)) (rw (drop-cons s at 0 l) z)

  items_refused₁ : (k : Refusal) → read_item (drop at s) ≡ refused k → refused k ≡ map_ok (seen_at at cname) (read_items (suc t) at (drop at s))
  unfolding ◌>>=◌ map_ok
  items_refused₁ k e = rw (first_here, e)

  items_again₁ : (x : Item × List ℕ) → read_item (drop at s) ≡ ok x
      → map_ok (seen_at at cname) (read_items (suc t) at (drop at s))
      ≡ map_ok (seen_at (at + length (item_bytes x.0)) (first_cname cname at (item_type x.0) (length (item_rest x.0)))) (read_items t (at + length (item_bytes x.0)) (drop (at + length (item_bytes x.0)) s))
  unfolding ◌>>=◌ items_bytes cname_found
  items_again₁ x e =
      let r : x.1 ≡ drop (at + length (item_bytes x.0)) s = item_rest_lem (drop at s) e ∙ drop-drop (length (item_bytes x.0)) at s in
      rw (first_here, e)
      (map_bind (seen_at at cname) (λ (y : List Item × List ℕ). (x.0 ∷ y.0, y.1)) (read_items t (at + length (item_bytes x.0)) x.1)
      ∙ map_same _ _ (read_items t (at + length (item_bytes x.0)) x.1) (λ y.
      rw (
        length-append (item_bytes x.0) (items_bytes y.0),
        ← add_assoc at (length (item_bytes x.0)) (length (items_bytes y.0)),
        first_step cname at (cname_found (at + length (item_bytes x.0)) y.0) (is_cname (item_type x.0) (length (item_rest x.0))),
      ))
      ∙ ap (λ (bs : List ℕ). map_ok (seen_at (at + length (item_bytes x.0)) (first_cname cname at (item_type x.0) (length (item_rest x.0)))) (read_items t (at + length (item_bytes x.0)) bs)) r)

pub zero_behind : (s : List ℕ) (at : ℕ) → length s ≤ at → false ≡ zero_at s at
zero_behind s at l = rw (le-ltb at (length s) l)

pub zero_inside : (s : List ℕ) (at : ℕ) (b : Bool) → at < length s → b ≡ eqb (get_or s at 0) 0 → b ≡ zero_at s at
zero_inside s at b l e = rw (lt-ltb at (length s) l) e

module _ (s : List ℕ) (known : Option ℕ) (at : ℕ) (cname : Option ℕ) (g : Going s known at cname) where
  -- no byte is left
  items_ended : length s ≤ at → ItemsEnd s known at cname false
  unfolding read_fill map_ok
  items_ended l =
      let n : fill at ≡ suc (3 - at % 4) = omega arith in
      let w : read_fill (fill at) at (drop at s) ≡ refuse 2 (at + fill at) at = rw (drop_of_length-le s l, n) in
      record {
        within = g.within;
        zero = λ e. absurd (true≢false (sym e));
        closes = λ e. absurd (true≢false (sym e));
        ended = λ e q.
            map_refusal (chunk_end known) (read_chunk s) _
            (sym (map_refused (closed_at at cname) (read_fill (fill at) at (drop at s)) w) ∙ items_ended₁ g.turns s at cname l ∙ sym g.same);
        item = λ e q. absurd (q (omega (arith, g.within)));
      }

  items_closed : at < length s → get_or s at 0 ≡ 0 → ItemsEnd s known at cname true
  items_closed l z =
      record {
        within = g.within;
        zero = λ e. (l, z);
        closes = λ e. items_closed₁ g.turns s at cname g.enough l z ∙ sym g.same;
        ended = λ e. absurd (true≢false e);
        item = λ e. absurd (true≢false e);
      }

  items_refused : at < length s → (get_or s at 0 ≡ 0 → ⊥) → (r : Refusal) × (read_item (drop at s) ≡ refused r) → ItemsEnd s known at cname false
  items_refused l z w =
      record {
        within = g.within;
        zero = λ e. absurd (true≢false (sym e));
        closes = λ e. absurd (true≢false (sym e));
        ended = λ e q. absurd (omega arith);
        item = λ e q. (w.0, w.1, map_refusal (chunk_end known) (read_chunk s) w.0 (go g.turns g.enough ∙ sym g.same));
      }
    where
      go : (t : ℕ) → length s - at ≤ t → refused w.0 ≡ map_ok (seen_at at cname) (read_items t at (drop at s))
      go zero m = absurd (omega arith)
      go (suc t) m = items_refused₁ t s at cname l z _ w.1

  module _ (h : None ≡ step_end s at) where
    items_stop : (b : Bool) → b ≡ zero_at s at → ItemsEnd s known at cname b
    items_stop b q = subst (ItemsEnd s known at cname) (sym q) (go (ltb at (length s)) (eqb (get_or s at 0) 0) refl refl)
      where
        go : (x y : Bool) → ltb at (length s) ≡ x → eqb (get_or s at 0) 0 ≡ y → ItemsEnd s known at cname (x && y)
        go false y f k = items_ended (ltb-false at (length s) f)
        go true true f k = items_closed (ltb-true at (length s) f) (eqb-true (get_or s at 0) 0 k)
        go true false f k =
            let l = ltb-true at (length s) f in
            let z = eqb-false (get_or s at 0) 0 k in
            items_refused l z (steps_not s at h l z)

    -- where two bytes are left
    pub items_halt : (b : Bool) → 4 ≤ length s → at ≤ length s - 2 → b ≡ eqb (get_or s at 0) 0 → ItemsEnd s known at cname b
    items_halt b l k q = items_stop b (zero_inside s at b (omega arith) q)

  module _ (n : ℕ) (h : Some n ≡ step_end s at) where
    on : Steps s at n
    on = steps s at n h

    next : (at + 2 ≤ n) × (n ≤ length s)
    next = let w = on in omega (arith, w.end, item_length_lem (drop at s) w.reads, length-drop at s)

    pub items_inside : at < length s
    items_inside = on.inside

    pub items_after : at ≤ n
    items_after = let w = next in omega arith

    pub items_two : 2 ≤ n - at
    items_two = let w = next in omega arith

    pub items_less : length s - n < length s - at
    items_less = let w = next in let l = items_inside in omega arith

    pub items_again : (c : Option ℕ) → c ≡ first_cname cname at (get_or s at 0) (n - at - 2) → Going s known n c
    items_again c q = go on.read on.reads on.end g.turns g.enough g.same
      where
        go : (x : Item × List ℕ) → read_item (drop at s) ≡ ok x → item_end at x ≡ n
            → (t : ℕ) → length s - at ≤ t → ends known s ≡ map_ok (seen_at at cname) (read_items t at (drop at s)) → Going s known n c
        go x r m zero b d = let l = items_inside in absurd (omega arith)
        go x r m (suc t) b d =
            let w = next in
            let y : get_or s at 0 ≡ item_type x.0 =
            ap (λ (k : ℕ). get_or s k 0) (sym (add-zero at)) ∙ sym (get_or-drop at s 0 0) ∙ ap (λ (s : List ℕ). get_or s 0 0) (sym (item_in (drop at s) r).bytes) in
            let f : n - at - 2 ≡ length (item_rest x.0) = omega arith in
            let k : c ≡ first_cname cname at (item_type x.0) (length (item_rest x.0)) =
            q ∙ ap (λ (t : ℕ). first_cname cname at t (n - at - 2)) y ∙ ap (first_cname cname at (item_type x.0)) f in
            record {
              turns = t;
              enough = omega arith;
              start = omega (arith, g.start);
              within = w.1;
              same = rw (k, ← m) (d ∙ items_again₁ t s at cname items_inside on.item x r);
            }

  -- where a single byte is left, or none
  pub items_rest : (b : Bool) → length s - 2 < at → b ≡ zero_at s at → ItemsEnd s known at cname b
  items_rest b l q = items_stop (end_last s at l) b q

-- ---- the turns over the closing zeros

pub record Closing (s : List ℕ) (from end at : ℕ) : Type 0 where
  pub above : end ≡ from + fill from
  pub start : from ≤ at
  pub before : at ≤ end
  pub same : read_fill (fill from) from (drop from s) ≡ read_fill (end - at) at (drop at s)

pub zeros_start : (s : List ℕ) (from end : ℕ) → end ≡ from + fill from → Closing s from end from
zeros_start s from end e =
    let n : end - from ≡ fill from = omega arith in
    record { above = e; start = omega arith; before = omega arith; same = rw n }

fill_bad : (k at b : ℕ) (r : List ℕ) → (b ≡ 0 → ⊥) → read_fill (suc k) at (b ∷ r) ≡ refuse 2 (at + suc k) at
unfolding read_fill
fill_bad k at zero r h = absurd (h refl)
fill_bad k at (suc b) r h = refl

module _ (s : List ℕ) (from end at : ℕ) (g : Closing s from end at) (l : at < end) where
  turns : end - at ≡ suc (end - (at + 1))
  turns = omega arith

  total : at + suc (end - (at + 1)) ≡ end
  total = omega arith

  zeros_out : length s ≤ at → refuse 2 end at ≡ map_ok (boundary from) (read_fill (fill from) from (drop from s))
  unfolding read_fill map_ok
  zeros_out h = sym (ap (map_ok (boundary from)) g.same ∙ rw (turns, drop_of_length-le s h, total))

  zeros_other : at < length s → (get_or s at 0 ≡ 0 → ⊥) → refuse 2 end at ≡ map_ok (boundary from) (read_fill (fill from) from (drop from s))
  unfolding map_ok
  zeros_other h z =
      let w : read_fill (end - at) at (drop at s) ≡ refuse 2 end at =
      rw (turns, drop-cons s at 0 h) (fill_bad (end - (at + 1)) at (get_or s at 0) (drop (suc at) s) z ∙ ap (λ (n : ℕ). refuse 2 n at) total) in
      sym (ap (map_ok (boundary from)) (g.same ∙ w))

  zeros_again : at < length s → get_or s at 0 ≡ 0 → Closing s from end (at + 1)
  unfolding read_fill
  zeros_again h z =
      record {
        above = g.above;
        start = omega (arith, g.start);
        before = omega arith;
        same = g.same ∙ rw (turns, drop-cons s at 0 h, z) (ap (λ (n : ℕ). read_fill (end - (at + 1)) (at + 1) (drop n s)) (sym (add-one at)));
      }

zeros_done : (s : List ℕ) (from end at : ℕ) → Closing s from end at → end ≤ at → ok end ≡ map_ok (boundary from) (read_fill (fill from) from (drop from s))
unfolding read_fill map_ok
zeros_done s from end at g h =
    let n : end - at ≡ 0 = omega arith in
    let w : read_fill (end - at) at (drop at s) ≡ ok (drop at s) = rw n in
    sym (ap (map_ok (boundary from)) (g.same ∙ w) ∙ ap ok (sym g.above))

pub zeros_behind : (s : List ℕ) (from end : ℕ) → from < length s → get_or s from 0 ≡ 0 → end ≡ from + fill from → Closing s from end (from + 1)
zeros_behind s from end l z e = zeros_again s from end from (zeros_start s from end e) (omega arith) l z

abbrev closes : List ℕ → ℕ → Answer ℕ
closes s from = map_ok (boundary from) (read_fill (fill from) from (drop from s))

module _ (s : List ℕ) (from end at : ℕ) (g : Closing s from end at) where
  pub zeros_below : at ≤ end
  zeros_below = g.before

  module _ (l : at < end) where
    pub zeros_short : length s ≤ at → closes s from ≡ filled end at
    zeros_short h = rw (lt-ltb at end l) (sym (zeros_out s from end at g l h))

    pub zeros_stop : at < length s → (get_or s at 0 ≡ 0 → ⊥) → closes s from ≡ filled end at
    zeros_stop h z = rw (lt-ltb at end l) (sym (zeros_other s from end at g l h z))

    pub zeros_more : at < length s → get_or s at 0 ≡ 0 → Closing s from end (at + 1)
    zeros_more h z = zeros_again s from end at g l h z

  pub zeros_all : end ≤ at → closes s from ≡ filled end end
  zeros_all l = rw (le-ltb end end (omega arith)) (sym (zeros_done s from end at g l))

-- ---- whether they stand up to the boundary

module _ (s : List ℕ) (from end : ℕ) where
  answer_full : closes s from ≡ ok end → true ≡ filled_at s from
  unfolding map_ok
  answer_full e = go (read_fill (fill from) from (drop from s)) e
    where
      go : (m : Answer (List ℕ)) → map_ok (boundary from) m ≡ ok end → true ≡ is_some (value_in m)
      go (ok r) e = refl
      go (refused r) e = absurd (refused≢ok e)

  answer_short : (at : ℕ) → closes s from ≡ refuse 2 end at → false ≡ filled_at s from
  unfolding map_ok
  answer_short at e = go (read_fill (fill from) from (drop from s)) e
    where
      go : (m : Answer (List ℕ)) → map_ok (boundary from) m ≡ refuse 2 end at → false ≡ is_some (value_in m)
      go (ok r) e = absurd (refused≢ok (sym e))
      go (refused r) e = refl

  module _ (l : end ≤ length s) (at : ℕ) (g : Closing s from end at) where
    all : at ≡ end → true ≡ filled_at s from
    all e = answer_full (zeros_all s from end at g (omega arith) ∙ rw (le-ltb end end (omega arith)))

    module _ (n : at ≡ end → ⊥) where
      before : (at < end) × (at < length s)
      before = omega (arith, g.before)

      one_not : (get_or s at 0 ≡ 0 → ⊥) → false ≡ filled_at s from
      one_not z = answer_short at (zeros_stop s from end at g before.0 before.1 z ∙ rw (lt-ltb at end before.0))

      more : get_or s at 0 ≡ 0 → Closing s from end (at + 1)
      more z = zeros_more s from end at g before.0 before.1 z

  -- the four bytes one after the other
  module _ (z : get_or s from 0 ≡ 0) (e : end ≡ from + fill from) (l : end ≤ length s) where
    g₁ : Closing s from end (from + 1)
    g₁ = zeros_behind s from end (omega arith) z e

    pub filled_one : from + 1 ≡ end → true ≡ filled_at s from
    filled_one = all l (from + 1) g₁

    module _ (n₁ : from + 1 ≡ end → ⊥) where
      pub second_inside : from + 1 < length s
      second_inside = (before l (from + 1) g₁ n₁).1

      pub second_not : (get_or s (from + 1) 0 ≡ 0 → ⊥) → false ≡ filled_at s from
      second_not = one_not l (from + 1) g₁ n₁

      module _ (z₁ : get_or s (from + 1) 0 ≡ 0) where
        g₂ : Closing s from end (from + 1 + 1)
        g₂ = more l (from + 1) g₁ n₁ z₁

        pub filled_two : from + 1 + 1 ≡ end → true ≡ filled_at s from
        filled_two = all l (from + 1 + 1) g₂

        module _ (n₂ : from + 1 + 1 ≡ end → ⊥) where
          pub third_inside : from + 1 + 1 < length s
          third_inside = (before l (from + 1 + 1) g₂ n₂).1

          pub third_not : (get_or s (from + 1 + 1) 0 ≡ 0 → ⊥) → false ≡ filled_at s from
          third_not = one_not l (from + 1 + 1) g₂ n₂

          module _ (z₂ : get_or s (from + 1 + 1) 0 ≡ 0) where
            g₃ : Closing s from end (from + 1 + 1 + 1)
            g₃ = more l (from + 1 + 1) g₂ n₂ z₂

            pub filled_three : from + 1 + 1 + 1 ≡ end → true ≡ filled_at s from
            filled_three = all l (from + 1 + 1 + 1) g₃

            module _ (n₃ : from + 1 + 1 + 1 ≡ end → ⊥) where
              pub fourth_inside : from + 1 + 1 + 1 < length s
              fourth_inside = (before l (from + 1 + 1 + 1) g₃ n₃).1

              pub filled_last : (b : Bool) → b ≡ eqb (get_or s (from + 1 + 1 + 1) 0) 0 → b ≡ filled_at s from
              filled_last b q = rw q (go (eqb (get_or s (from + 1 + 1 + 1) 0) 0) refl)
                where
                  go : (t : Bool) → eqb (get_or s (from + 1 + 1 + 1) 0) 0 ≡ t → t ≡ filled_at s from
                  go true y =
                      all l (from + 1 + 1 + 1 + 1) (more l (from + 1 + 1 + 1) g₃ n₃ (eqb-true (get_or s (from + 1 + 1 + 1) 0) 0 y))
                      (omega (arith, (before l (from + 1 + 1 + 1) g₃ n₃).0))
                  go false y = one_not l (from + 1 + 1 + 1) g₃ n₃ (eqb-false (get_or s (from + 1 + 1 + 1) 0) 0 y)

-- bytes that end before the boundary
fill_short : (k at : ℕ) (s : List ℕ) → length s < k → (r : Refusal) × (read_fill k at s ≡ refused r)
unfolding read_fill
fill_short zero at s h = absurd (omega arith)
fill_short (suc k) at [] h = (refusal 2 (at + suc k) at, refl)
fill_short (suc k) at (zero ∷ s) h = fill_short k (at + 1) s (omega arith)
fill_short (suc k) at (suc b ∷ s) h = (refusal 2 (at + suc k) at, refl)

-- ---- the chunk

short : (s : List ℕ) → length s < 4 → read_chunk s ≡ refuse 2 4 (length s)
unfolding read_chunk need ◌>>◌
short s h = rw (lt-leb 4 (length s) h)

-- an SSRC and a word of zeros
least_long : (s : List ℕ) {x : Chunk × List ℕ} → read_chunk s ≡ ok x → 8 ≤ length s
least_long s {x} e = omega (arith, chunk_size_lem x.0, (chunk_in s e).size)

pub none_short : (s : List ℕ) (known : Option ℕ) → length s < 8 → None ≡ value_in (ends known s)
unfolding map_ok
none_short s known h = go (read_chunk s) refl
  where
    go : (m : Answer (Chunk × List ℕ)) → read_chunk s ≡ m → None ≡ value_in (map_ok (chunk_end known) m)
    go (ok x) e = absurd (omega (arith, least_long s e))
    go (refused r) e = refl

pub why_short : (s : List ℕ) → length s < 4 → refused (refusal 2 4 (length s)) ≡ read_chunk s
why_short s h = sym (short s h)

module _ (s : List ℕ) (known : Option ℕ) (at : ℕ) (cname : Option ℕ) (b : Bool) (h : ItemsEnd s known at cname b) where
  pub chunk_within : at ≤ length s
  chunk_within = h.within

  none_of : (r : Refusal) → read_chunk s ≡ refused r → None ≡ value_in (ends known s)
  none_of r w = sym (ap value_in (map_refused (chunk_end known) (read_chunk s) w))

  module _ (e : b ≡ false) where
    pub none_open : None ≡ value_in (ends known s)
    none_open = go (eqb at (length s)) refl
      where
        go : (t : Bool) → eqb at (length s) ≡ t → None ≡ value_in (ends known s)
        go true y = none_of _ (h.ended e (eqb-true at (length s) y))
        go false y = let w = h.item e (eqb-false at (length s) y) in none_of w.0 w.2

    pub why_ended : (end : ℕ) → end ≡ at + fill at → at ≡ length s → refused (refusal 2 end at) ≡ read_chunk s
    why_ended end q y = rw q (sym (h.ended e y))

    module _ (z : at ≡ length s → ⊥) where
      pub item_asked : value_in (read_item (take (length s - at) (drop at s))) ≡ None
      item_asked = let w = h.item e z in ap (λ (s : List ℕ). value_in (read_item s)) (rest_is s at) ∙ ap value_in w.1

      pub why_item : (k : Refusal) → refused k ≡ read_item (take (length s - at) (drop at s)) → refused k ≡ read_chunk s
      why_item k q =
          let w = h.item e z in
          let y : refused k ≡ refused w.0 = q ∙ ap read_item (rest_is s at) ∙ w.1 in
          let r = w.2 in
          cc

  module _ (e : b ≡ true) where
    pub chunk_inside : at < length s
    chunk_inside = (h.zero e).0

    pub chunk_zero : get_or s at 0 ≡ 0
    chunk_zero = (h.zero e).1

    shut : map_ok (closed_at at cname) (read_fill (fill at) at (drop at s)) ≡ ends known s
    shut = h.closes e

    -- the zeros are refused, and so the chunk is
    unfilled : (r : Refusal) → read_fill (fill at) at (drop at s) ≡ refused r → read_chunk s ≡ refused r
    unfilled r w = map_refusal (chunk_end known) (read_chunk s) r (sym (map_refused (closed_at at cname) (read_fill (fill at) at (drop at s)) w) ∙ shut)

    pub none_cut : (end : ℕ) → end ≡ at + fill at → length s < end → None ≡ value_in (ends known s)
    none_cut end y l = let w = fill_short (fill at) at (drop at s) (rw length-drop (omega arith)) in none_of w.0 (unfilled w.0 w.1)

    -- zeros stand up to the boundary
    closed_up : {end : ℕ} → (x : List ℕ) × (read_fill (fill at) at (drop at s) ≡ ok x) × (boundary at x ≡ end) → ok (record { length = end; cname = cname }) ≡ ends known s
    closed_up w = rw (← w.2) (sym (map_ok_lem (closed_at at cname) (read_fill (fill at) at (drop at s)) w.1) ∙ shut)

    -- of a chunk that is refused they do not
    pub why_zeros : (end r : ℕ) → ZerosEnd s at end r → value_in (read_chunk s) ≡ None → refused (refusal 2 end r) ≡ read_chunk s
    why_zeros end r f n = go (ltb r end) refl
      where
        go : (t : Bool) → ltb r end ≡ t → refused (refusal 2 end r) ≡ read_chunk s
        go true y = sym (unfilled _ (map_refusal (boundary at) (read_fill (fill at) at (drop at s)) (refusal 2 end r) (sym (rw y at f.closes))))
        go false y =
            let w = map_ok_inv (boundary at) (read_fill (fill at) at (drop at s)) (rw y at f.closes) in
            absurd (none-some _ (none_viewed (chunk_end known) (read_chunk s) n ∙ sym (value_found (ends known s) _ (closed_up w))))

    module _ (end : ℕ) (t : Bool) (f : t ≡ filled_at s at) (y : end ≡ at + fill at) where
      pub none_zeros : t ≡ false → None ≡ value_in (ends known s)
      none_zeros n = go (read_fill (fill at) at (drop at s)) refl (sym n ∙ f)
        where
          go : (m : Answer (List ℕ)) → read_fill (fill at) at (drop at s) ≡ m → false ≡ is_some (value_in m) → None ≡ value_in (ends known s)
          go (ok x) q e = absurd (true≢false (sym e))
          go (refused r) q e = none_of r (unfilled r q)

      pub chunk_ends : t ≡ true → Some (record { length = end; cname = cname }) ≡ value_in (ends known s)
      chunk_ends n = go (read_fill (fill at) at (drop at s)) refl (sym n ∙ f)
        where
          go : (m : Answer (List ℕ)) → read_fill (fill at) at (drop at s) ≡ m → true ≡ is_some (value_in m) → Some (record { length = end; cname = cname }) ≡ value_in (ends known s)
          go (ok x) q e = value_found (ends known s) _ (closed_up (x, q, sym y))
          go (refused r) q e = absurd (true≢false e)

-- ---- chunks one after the other

-- what is known before each turn: the chunks that are left give the answer
pub record Running (s : List ℕ) (n at left : ℕ) (cname : Option ℕ) : Type 0 where
  pub within : at ≤ length s
  pub same : chunks_from n 0 None s ≡ chunks_from left at cname (drop at s)

pub run_start : (s : List ℕ) (n : ℕ) → Running s n 0 n None
run_start s n = record { within = omega arith; same = refl }

run_refused₁ : (t at : ℕ) (cname : Option ℕ) (s : List ℕ) → 0 < t → value_in (read_chunk s) ≡ None → record { at = at; left = t; cname = cname } ≡ chunks_from t at cname s
unfolding chunks_from
run_refused₁ zero at cname s l e = absurd (omega arith)
run_refused₁ (suc t) at cname s l e = rw e

run_again₁ : (t at : ℕ) (cname : Option ℕ) (s : List ℕ) (x : Chunk × List ℕ) → 0 < t → read_chunk s ≡ ok x
    → chunks_from t at cname s ≡ chunks_from (t - 1) (at + (chunk_end cname x).length) (chunk_end cname x).cname x.1
unfolding chunks_from
run_again₁ zero at cname s x l e = absurd (omega arith)
run_again₁ (suc t) at cname s x l e = let d : suc t - 1 ≡ t = omega arith in rw (d, e)

run_none : (t at : ℕ) (cname : Option ℕ) (s : List ℕ) → t ≤ 0 → record { at = at; left = t; cname = cname } ≡ chunks_from t at cname s
unfolding chunks_from
run_none zero at cname s l = refl
run_none (suc t) at cname s l = absurd (omega arith)

module _ (s : List ℕ) (n at left : ℕ) (cname : Option ℕ) (g : Running s n at left cname) where
  pub run_inside : at ≤ length s
  run_inside = g.within

  pub run_done : left ≤ 0 → record { at = at; left = left; cname = cname } ≡ chunks_from n 0 None s
  run_done l = run_none left at cname (drop at s) l ∙ sym g.same

  here : value_in (ends cname (take (length s - at) (drop at s))) ≡ value_in (ends cname (drop at s))
  here = ap (λ (bs : List ℕ). value_in (ends cname bs)) (rest_is s at)

  pub run_refused : 0 < left → None ≡ value_in (ends cname (take (length s - at) (drop at s))) → record { at = at; left = left; cname = cname } ≡ chunks_from n 0 None s
  run_refused l e = run_refused₁ left at cname (drop at s) l (none_below (chunk_end cname) (read_chunk (drop at s)) (e ∙ here)) ∙ sym g.same

  module _ (c : ChunkEnd) (h : Some c ≡ value_in (ends cname (take (length s - at) (drop at s)))) where
    run_came : (x : Chunk × List ℕ) × (read_chunk (drop at s) ≡ ok x) × (chunk_end cname x ≡ c)
    run_came = map_ok_inv (chunk_end cname) (read_chunk (drop at s)) (sym (value_is (ends cname (drop at s)) c (h ∙ here)))

    run_within : at + c.length ≤ length s
    run_within =
        let m : length (chunk_bytes run_came.0.0) ≡ c.length = ap (λ (c : ChunkEnd). c.length) run_came.2 in
        omega (arith, (chunk_in (drop at s) run_came.1).size, length-drop at s, g.within)

    pub run_fits : length s < 2 ^ 64 → at + c.length < 2 ^ 64
    run_fits l = let m = run_within in omega arith

    pub run_again : 0 < left → Running s n (at + c.length) (left - 1) c.cname
    run_again l =
        let x = run_came.0 in
        let r : x.1 ≡ drop (at + (chunk_end cname x).length) s = (chunk_in (drop at s) run_came.1).rest ∙ drop-drop (length (chunk_bytes x.0)) at s in
        record { within = run_within; same = rw (← run_came.2) (g.same ∙ run_again₁ left at cname (drop at s) x l run_came.1 ∙ rw r) }

-- ---- a chunk by itself

abbrev lone : Answer (Chunk × List ℕ) → Chunks
lone m =
    unwrap_or
    (option_map (λ (x : Chunk × List ℕ). record { at = 0 + length (chunk_bytes x.0); left = 0; cname = cname_found 4 x.0.items }) (value_in m))
    (record { at = 0; left = 1; cname = None })

lone_is : (s : List ℕ) → chunks_from 1 0 None s ≡ lone (read_chunk s)
unfolding chunks_from
lone_is s = refl

first_four : (s : List ℕ) {x : Chunk × List ℕ} → read_chunk s ≡ ok x → val (take 4 s) ≡ x.0.ssrc
unfolding read_chunk
first_four s e =
    bind_elim _ _ (need_inv _ _ _ _ _ e).1 (λ y q e₁. ap (λ (x : Chunk × List ℕ). x.0.ssrc) (ok_injective e₁))

module _ (s : List ℕ) (r : Chunks) (h : r ≡ chunks_from 1 0 None s) where
  pub lone_refused : 0 < r.left → None ≡ value_in (map_ok chunk_first (read_chunk s))
  unfolding map_ok
  lone_refused l = go (read_chunk s) (h ∙ lone_is s)
    where
      go : (m : Answer (Chunk × List ℕ)) → r ≡ lone m → None ≡ value_in (map_ok chunk_first m)
      go (ok x) e = absurd (omega (arith, ap (λ (r : Chunks). r.left) e))
      go (refused k) e = refl

  module _ (l : r.left ≤ 0) where
    lone_came : (x : Chunk × List ℕ) × (read_chunk s ≡ ok x) × (r ≡ record { at = 0 + length (chunk_bytes x.0); left = 0; cname = cname_found 4 x.0.items })
    lone_came = go (read_chunk s) refl (h ∙ lone_is s)
      where
        go : (m : Answer (Chunk × List ℕ)) → read_chunk s ≡ m → r ≡ lone m
            → (x : Chunk × List ℕ) × (read_chunk s ≡ ok x) × (r ≡ record { at = 0 + length (chunk_bytes x.0); left = 0; cname = cname_found 4 x.0.items })
        go (ok x) q e = (x, q, e)
        go (refused k) q e = absurd (omega (arith, ap (λ (r : Chunks). r.left) e))

    pub lone_long : 0 + 4 ≤ length s
    lone_long = let w = lone_came in omega (arith, chunk_size_lem w.0.0, (chunk_in s w.1).size)

    pub lone_read : (ssrc n : ℕ) → ssrc ≡ val (take 4 (drop 0 s)) → n ≡ unwrap_or r.cname 0 → Some (record { ssrc = ssrc; length = r.at; cname = n }) ≡ value_in (map_ok chunk_first (read_chunk s))
    unfolding map_ok
    lone_read ssrc place q f = rw f (go lone_came.0 lone_came.1 lone_came.2)
      where
        go : (x : Chunk × List ℕ) → read_chunk s ≡ ok x → r ≡ record { at = 0 + length (chunk_bytes x.0); left = 0; cname = cname_found 4 x.0.items }
            → Some (record { ssrc = ssrc; length = r.at; cname = unwrap_or r.cname 0 }) ≡ value_in (map_ok chunk_first (read_chunk s))
        go x e m =
            let n : r.at ≡ length (chunk_bytes x.0) = omega (arith, ap (λ (r : Chunks). r.at) m) in
            let c : r.cname ≡ cname_found 4 x.0.items = ap (λ (r : Chunks). r.cname) m in
            rw (e, n, c, place_number 4 x.0.items, q, first_four s e)

pub chunk_long : (x : Chunk × List ℕ) → 0 < (chunk_first x).length
chunk_long x = omega (arith, chunk_size_lem x.0)

module _ (s : List ℕ) where
  pub chunk_none : None ≡ value_in (map_ok chunk_first (read_chunk s)) → value_in (read_chunk s) ≡ None
  chunk_none e = none_below chunk_first (read_chunk s) e

  pub chunk_refused : (k : Refusal) → refused k ≡ read_chunk s → refused k ≡ map_ok chunk_first (read_chunk s)
  chunk_refused k e = refused_viewed chunk_first (read_chunk s) k e

  pub chunk_parsed : (c : SdesChunk) → Some c ≡ value_in (map_ok chunk_first (read_chunk s)) → ok c ≡ map_ok chunk_first (read_chunk s)
  chunk_parsed c e = value_is (map_ok chunk_first (read_chunk s)) c e

-- the whole, and its parts where one of them is enough
pub ruleset whys = (rules, boundary_is, why_short, chunk_within, chunk_inside, chunk_zero, why_ended, item_asked, why_item, why_zeros)

pub ruleset ends_of_chunks = (rules, not-true, not-false, none_short, none_open, none_cut, none_zeros, chunk_ends, chunk_within, chunk_inside, chunk_zero)

pub ruleset chunks = (rules, not-true, not-false, boundary_is, cname_here, cname_none, zero_behind, zero_inside, items_start, items_halt, items_rest, items_inside, items_after, items_two, items_less, items_again, zeros_behind, zeros_below, zeros_short, zeros_stop, zeros_more, zeros_all, filled_one, second_inside, second_not, filled_two, third_inside, third_not, filled_three, fourth_inside, filled_last, chunk_within, chunk_inside, chunk_zero, none_short, why_short, none_open, none_cut, why_ended, item_asked, why_item, none_zeros, why_zeros, chunk_ends, run_start, run_inside, run_done, run_refused, run_fits, run_again, lone_refused, lone_long, lone_read, chunk_none, chunk_refused, chunk_parsed)
