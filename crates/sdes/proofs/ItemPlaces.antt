-- The rows that the bytes of an accepted body give, from place to place, are those of the packet.
use Rattle.std.specs.Prelude.{Option, None, Some, option_map, unwrap_or}
use Rattle.std.proofs.lemmas.Option.{none-some}
use Rattle.rfc3550.proofs.Prelude.{ℕ, zero, suc, ◌+◌, ◌-◌, ◌*◌, ◌%◌, ◌^◌, ◌<◌, ◌≤◌, ◌≡◌, refl, sym, ap, ◌∙◌, subst, Bool, true, false, List, [], ◌∷◌, ◌++◌, append_assoc, add-zero, add_assoc, arith, lt-ltb, le-ltb, eq-eqb, ne_eqb, eqb-true, eqb-false, length, get_or, take, drop, length-append, length-drop, length-replicate, drop-drop, get_or-drop, eqb}
use Rattle.rfc3550.specs.Answer.{Answer, ok, map_ok}
use Rattle.rfc3550.specs.Bytes.{Bytes, val}
use Rattle.rfc3550.specs.Packet.{Item, item, priv, item_type, item_rest, item_bytes, items_bytes, fill, Chunk, chunk_bytes, Content, sdes, chunks_of, Packet}
use Rattle.rfc3550.specs.Read.{SDES, low_in, read_item, read_items, read_chunk, read_chunks, read_as}
use Rattle.rfc3550.proofs.Answers.{map_ok_inv, need_inv, bind_elim, ok_injective, refused≢ok, true≢false}
use Rattle.rfc3550.proofs.Bytes.{length_be}
use Rattle.rfc3550.proofs.Packets.{packet_sound}
use Rattle.utils.proofs.Reading.{got}
use Rattle.utils.specs.Error.{value_in}
use Rattle.sdes_chunk.specs.declared.item.SdesItem.{SdesItem}
use Rattle.sdes_chunk.specs.Item.{item_first, item_end, step_end, value_of, prefix_length}
use Rattle.sdes_chunk.proofs.Answers.{rest_is}
use Rattle.sdes_chunk.proofs.Items.{Steps, steps_not, steps}
use Rattle.sdes_chunk.proofs.Walks.{step_some}
use Rattle.sdes_chunk.proofs.Readings.{is_priv, item_in, item_length_lem, item_rest_lem, Placed, item_placed, chunk_in}
use Rattle.sdes.specs.Sdes.{sdes_view}
use Rattle.sdes.proofs.Packets.{sdes_body, content_chunks}
use Rattle.sdes.specs.declared.items.Place.{Place}
use Rattle.sdes.specs.ItemRows.{item_row, item_rows, chunk_rows, sdes_rows}
use Rattle.sdes.specs.ItemPlaces.{chunk_place, place_after, row_at, HasRow, RowsAt, rows_from}

-- ---- one place

pub chunk_none : (s : List ℕ) (start : ℕ) → length s ≤ start + 4 → record { ssrc = 0; at = start + 4 } ≡ chunk_place s start
chunk_none s start h = rw (le-ltb (start + 4) (length s) h)

pub chunk_some : (s : List ℕ) (start ssrc : ℕ) → start + 4 < length s → ssrc ≡ val (take 4 (drop start s)) → record { ssrc = ssrc; at = start + 4 } ≡ chunk_place s start
chunk_some s start ssrc h e = rw (lt-ltb (start + 4) (length s) h, e)

module _ (s : List ℕ) (p : Place) where
  pub after_zero : (q : Place) (n : ℕ) → get_or s p.at 0 ≡ 0 → n ≡ p.at + fill p.at → q ≡ chunk_place s n → q ≡ place_after s p
  after_zero q n z f e = rw z (e ∙ ap (chunk_place s) f)

  pub row_end : get_or s p.at 0 ≡ 0 → p.ssrc ∷ 0 ∷ p.at ∷ 0 ∷ 0 ∷ [] ≡ row_at s p
  row_end z = rw z

  pub after_item : (n : ℕ) → (get_or s p.at 0 ≡ 0 → ⊥) → n ≡ unwrap_or (option_map (item_end p.at) (value_in (read_item (drop p.at s)))) 0 → record { ssrc = p.ssrc; at = n } ≡ place_after s p
  after_item n z e = rw (ne_eqb _ _ z, e)

  -- the row of what was read
  row_read : (x : Item × List ℕ) → (get_or s p.at 0 ≡ 0 → ⊥) → read_item (drop p.at s) ≡ ok x → item_row p.ssrc p.at x.0 ≡ row_at s p
  row_read x z e = rw (ne_eqb _ _ z, e)

-- where what was read ends
abbrev end_of : ℕ → Answer (Item × List ℕ) → ℕ
end_of at m = unwrap_or (option_map (item_end at) (value_in m)) 0

-- the numbers of an item's row, from its view
plain_row : (ssrc at : ℕ) (i : Item) → is_priv i ≡ eqb (item_type i) 8 → (item_type i ≡ 8 → ⊥) → ssrc ∷ item_type i ∷ (at + 2) ∷ 0 ∷ length (item_rest i) ∷ [] ≡ item_row ssrc at i
plain_row ssrc at (item t v) k h = refl
plain_row ssrc at (priv q v) k h = absurd (h refl)

priv_row : (ssrc at : ℕ) (i : Item) → is_priv i ≡ eqb (item_type i) 8 → item_type i ≡ 8
    → (1 + prefix_length i ≤ length (item_rest i)) × (ssrc ∷ item_type i ∷ (at + 3 + prefix_length i) ∷ prefix_length i ∷ (length (item_rest i) - 1 - prefix_length i) ∷ [] ≡ item_row ssrc at i)
priv_row ssrc at (item t v) k h = absurd (true≢false (sym (k ∙ eq-eqb t 8 h)))
priv_row ssrc at (priv q v) k h =
    let n : suc (length (q ++ v)) - 1 - length q ≡ length v = rw length-append (omega arith) in
    (rw length-append (omega arith), rw n)

-- what the step over a place says of its row
pub row_zero : (s : List ℕ) (at : ℕ) → HasRow s at → None ≡ step_end s at → get_or s at 0 ≡ 0
row_zero s at h e = go (eqb (get_or s at 0) 0) refl
  where
    go : (b : Bool) → eqb (get_or s at 0) 0 ≡ b → get_or s at 0 ≡ 0
    go true f = eqb-true (get_or s at 0) 0 f
    go false f =
        let y = eqb-false (get_or s at 0) 0 f in
        absurd (refused≢ok (sym (steps_not s at e h.within y).1 ∙ (h.read y).1))

module _ (s : List ℕ) (p : Place) (n : ℕ) (e : Some n ≡ step_end s p.at) where
  over : Steps s p.at n
  over = steps s p.at n e

  pub item_next : record { ssrc = p.ssrc; at = n } ≡ place_after s p
  item_next = after_item s p n over.item (sym (ap (end_of p.at) over.reads ∙ over.end))

  pub item_less : length s - n < length s - p.at
  item_less = let w = over in omega (arith, w.end, w.inside)

  pub item_stands : step_end s p.at ≡ None → ⊥
  item_stands y = none-some n (sym y ∙ sym e)

module _ (s : List ℕ) (p : Place) (z : step_end s p.at ≡ None → ⊥) where
  found : (n : ℕ) × (Some n ≡ step_end s p.at)
  found = go (step_end s p.at) refl
    where
      go : (o : Option ℕ) → o ≡ step_end s p.at → (n : ℕ) × (Some n ≡ step_end s p.at)
      go None q = absurd (z (sym q))
      go (Some n) q = (n, q)

  on : Steps s p.at found.0
  on = steps s p.at found.0 found.1

  pub item_within : p.at ≤ length s
  item_within = let l = on.inside in omega arith

  pub item_bound : length s ≤ 262144 → p.at < 262144
  item_bound l = let w = on.inside in omega arith

  pub item_some : value_in (read_item (take (length s - p.at) (drop p.at s))) ≡ None → ⊥
  item_some = step_some s p.at found.0 found.1

  module _ (i : SdesItem) (f : ok i ≡ map_ok item_first (read_item (take (length s - p.at) (drop p.at s)))) where
    here : (x : Item × List ℕ) × (read_item (drop p.at s) ≡ ok x) × (item_first x ≡ i)
    here = map_ok_inv item_first (read_item (drop p.at s)) (sym (f ∙ ap (λ (s : List ℕ). map_ok item_first (read_item s)) (rest_is s p.at)))

    placed : Placed (drop p.at s) i (value_of here.0.0)
    placed = subst (λ (i : SdesItem). Placed (drop p.at s) i (value_of here.0.0)) here.2 (item_placed (drop p.at s) here.1)

    module _ (l : length s ≤ 262144) where
      inside : p.at + (2 + i.length) ≤ length s
      inside = let g = placed in let w = on.inside in omega (arith, g.within, length-drop p.at s)

      pub row_length : i.length < 2 ^ 32
      row_length = let g = inside in omega arith

      pub row_plain : (i.type_ ≡ 8 → ⊥) → p.ssrc ∷ i.type_ ∷ (p.at + 2) ∷ 0 ∷ i.length ∷ [] ≡ row_at s p
      row_plain h = go here.0 here.1 here.2
        where
          go : (x : Item × List ℕ) → read_item (drop p.at s) ≡ ok x → item_first x ≡ i → p.ssrc ∷ i.type_ ∷ (p.at + 2) ∷ 0 ∷ i.length ∷ [] ≡ row_at s p
          go x r m = let t = ap (λ (i : SdesItem). i.type_) m in rw (← m) (plain_row p.ssrc p.at x.0 (item_in (drop p.at s) r).kind (λ q. h (sym t ∙ q)) ∙ row_read s p x on.item r)

      module _ (h : i.type_ ≡ 8) where
        whole : (1 + i.prefix_len ≤ i.length) × (p.ssrc ∷ i.type_ ∷ (p.at + 3 + i.prefix_len) ∷ i.prefix_len ∷ (i.length - 1 - i.prefix_len) ∷ [] ≡ row_at s p)
        whole = go here.0 here.1 here.2
          where
            go : (x : Item × List ℕ) → read_item (drop p.at s) ≡ ok x → item_first x ≡ i
                → (1 + i.prefix_len ≤ i.length) × (p.ssrc ∷ i.type_ ∷ (p.at + 3 + i.prefix_len) ∷ i.prefix_len ∷ (i.length - 1 - i.prefix_len) ∷ [] ≡ row_at s p)
            go x r m =
                let t = ap (λ (i : SdesItem). i.type_) m in
                let w = priv_row p.ssrc p.at x.0 (item_in (drop p.at s) r).kind (t ∙ h) in
                rw (← m) (w.0, w.1 ∙ row_read s p x on.item r)

        pub row_prefix : i.prefix_len < 2 ^ 32
        row_prefix = let g = inside in let w = whole.0 in omega arith

        pub row_value : p.at + 3 + i.prefix_len < 2 ^ 32
        row_value = let g = inside in let w = whole.0 in omega arith

        pub row_one : 1 ≤ i.length
        row_one = let w = whole.0 in omega arith

        pub row_rest : i.prefix_len ≤ i.length - 1
        row_rest = let w = whole.0 in omega arith

        pub row_rest_fits : i.length - 1 - i.prefix_len < 2 ^ 32
        row_rest_fits = let g = inside in omega arith

        pub row_priv : p.ssrc ∷ i.type_ ∷ (p.at + 3 + i.prefix_len) ∷ i.prefix_len ∷ (i.length - 1 - i.prefix_len) ∷ [] ≡ row_at s p
        row_priv = whole.1

-- what an item and what is behind it say of its end
item_fits : (s : List ℕ) (at : ℕ) (x : Item × List ℕ) → at < length s → read_item (drop at s) ≡ ok x → 0 < length x.1 → (at + 2 ≤ item_end at x) × (item_end at x < length s)
item_fits s at x l e n = let m = item_length_lem (drop at s) e in let d = length-drop at s in (omega arith, omega arith)

-- behind an item something stands
pub row_next : (s : List ℕ) (p : Place) → HasRow s p.at → (get_or s p.at 0 ≡ 0 → ⊥) → (place_after s p).at < length s
row_next s p h z =
    let w = h.read z in
    let f = item_fits s p.at w.0 h.within w.1 w.2 in
    rw (ne_eqb _ _ z) (subst (λ (n : ℕ). n < length s) (sym (ap (end_of p.at) w.1)) f.1)

abbrev zero_or : List ℕ → ℕ → Bool
zero_or s at = eqb (get_or s at 0) 0

pub length_row : (s : List ℕ) (p : Place) → HasRow s p.at → length (row_at s p) ≡ 5
length_row s p h = go (zero_or s p.at) refl
  where
    five : (i : Item) → length (item_row p.ssrc p.at i) ≡ 5
    five (item t v) = refl
    five (priv q v) = refl

    go : (b : Bool) → zero_or s p.at ≡ b → length (row_at s p) ≡ 5
    go true e = rw e
    go false e =
        let z = eqb-false (get_or s p.at 0) 0 e in
        let w = h.read z in
        ap length (sym (row_read s p w.0 z w.1)) ∙ five w.0.0

pub length_rows : (n : ℕ) (s : List ℕ) (p : Place) → RowsAt n s p → length (rows_from n s p) ≡ n * 5
unfolding rows_from
length_rows zero s p h = refl
length_rows (suc n) s p h = rw (length-append (row_at s p), length_row s p h.0, length_rows n s (place_after s p) h.1) (omega arith)

-- the next place is two bytes further on at least
pub after_more : (s : List ℕ) (p : Place) → HasRow s p.at → p.at + 2 ≤ (place_after s p).at
after_more s p h = go (zero_or s p.at) refl
  where
    go : (b : Bool) → zero_or s p.at ≡ b → p.at + 2 ≤ (place_after s p).at
    go true e = rw e (omega arith)
    go false e =
        let w = h.read (eqb-false (get_or s p.at 0) 0 e) in
        let f = item_fits s p.at w.0 h.within w.1 w.2 in
        rw e (subst (λ (n : ℕ). p.at + 2 ≤ n) (sym (ap (end_of p.at) w.1)) f.0)

pub after_less : (s : List ℕ) (p q : Place) → HasRow s p.at → q ≡ place_after s p → length s - q.at < length s - p.at
after_less s p q h e = let a = after_more s p h in let l = h.within in rw e (omega arith)

pub rows_most : (n : ℕ) (s : List ℕ) (p : Place) → RowsAt n s p → 2 * n ≤ length s - p.at + 1
rows_most zero s p h = omega arith
rows_most (suc n) s p h = go n h.1 (rows_most n s (place_after s p) h.1)
  where
    go : (n : ℕ) → RowsAt n s (place_after s p) → 2 * n ≤ length s - (place_after s p).at + 1 → 2 * suc n ≤ length s - p.at + 1
    go zero r m = let c = h.0.within in omega arith
    go (suc n) r m = let b = after_more s p h.0 in let c = r.0.within in omega arith

-- there is one number of rows
pub rows_one : (n m : ℕ) (s : List ℕ) (p : Place) → RowsAt n s p → RowsAt m s p → n ≡ m
rows_one zero zero s p h k = refl
rows_one zero (suc m) s p h k = absurd (let c = k.0.within in omega arith)
rows_one (suc n) zero s p h k = absurd (let c = h.0.within in omega arith)
rows_one (suc n) (suc m) s p h k = ap suc (rows_one n m s (place_after s p) h.1 k.1)

-- ---- the rows from a place on

pub record Reads (s : List ℕ) (p : Place) (xs : List ℕ) : Type 0 where
  pub n : ℕ
  pub rows : RowsAt n s p
  pub same : rows_from n s p ≡ xs

reads_none : (s : List ℕ) (p : Place) → length s ≤ p.at → Reads s p []
unfolding rows_from
reads_none s p h = record { n = 0; rows = h; same = refl }

-- what stands at a place: its row, and the place of the next
record Here (s : List ℕ) (p : Place) (row : List ℕ) (q : Place) : Type 0 where
  pub has : HasRow s p.at
  pub is : row_at s p ≡ row
  pub next : place_after s p ≡ q

reads_more : (s : List ℕ) (p : Place) (row : List ℕ) (q : Place) (xs : List ℕ) → Here s p row q → Reads s q xs → Reads s p (row ++ xs)
unfolding rows_from
reads_more s p row q xs h g = record { n = suc g.n; rows = (h.has, subst (RowsAt g.n s) (sym h.next) g.rows); same = rw (h.is, h.next, g.same) }

-- the byte at a place
first_at : (s : List ℕ) (at : ℕ) (bs : List ℕ) → bs ≡ drop at s → get_or s at 0 ≡ get_or bs 0 0
first_at s at bs e = ap (λ (k : ℕ). get_or s k 0) (sym (add-zero at)) ∙ rw e (sym (get_or-drop at s 0 0))

zero_here : (s : List ℕ) (p : Place) (r : List ℕ) → 0 ∷ r ≡ drop p.at s → Here s p (p.ssrc ∷ 0 ∷ p.at ∷ 0 ∷ 0 ∷ []) (chunk_place s (p.at + fill p.at))
zero_here s p r e =
    let z : get_or s p.at 0 ≡ 0 = first_at s p.at (0 ∷ r) e in
    record { has = record { within = omega (arith, ap length e, length-drop p.at s); read = λ h. absurd (h z) }; is = sym (row_end s p z); next = sym (after_zero s p _ _ z refl refl) }

item_here : (s : List ℕ) (p : Place) (x : Item × List ℕ) → p.at < length s → (get_or s p.at 0 ≡ 0 → ⊥) → read_item (drop p.at s) ≡ ok x → 0 < length x.1
    → Here s p (item_row p.ssrc p.at x.0) (record { ssrc = p.ssrc; at = p.at + length (item_bytes x.0) })
item_here s p x l z e n =
    record {
      has = record { within = l; read = λ h. (x, e, n) };
      is = sym (row_read s p x z e);
      next = sym (after_item s p _ z refl) ∙ ap (λ (n : ℕ). record { ssrc = p.ssrc; at = n }) (ap (end_of p.at) e);
    }

-- ---- the items of a chunk, then what follows them

items_some : (t rel : ℕ) (bs : List ℕ) {x : List Item × List ℕ} → read_items t rel bs ≡ ok x → 0 < length bs
unfolding read_items
items_some zero rel bs e = absurd (refused≢ok e)
items_some (suc t) rel [] e = absurd (refused≢ok e)
items_some (suc t) rel (b ∷ bs) e = omega arith

-- the chunk behind items that stand at `at`
abbrev behind : ℕ → List Item → ℕ
behind at is = at + length (items_bytes is) + fill (at + length (items_bytes is))

items_read : (t rel : ℕ) (s : List ℕ) (p : Place) {x : List Item × List ℕ} (xs : List ℕ) → read_items t rel (drop p.at s) ≡ ok x
    → Reads s (chunk_place s (behind p.at x.0)) xs → Reads s p (item_rows p.ssrc p.at x.0 ++ xs)
unfolding read_items item_rows items_bytes
items_read zero rel s p xs e g = absurd (refused≢ok e)
items_read (suc t) rel s p {x} xs e g = go (λ rel p x e g. items_read t rel s p xs e g) (drop p.at s) refl e
  where
    go : ((rel : ℕ) (p : Place) (x : List Item × List ℕ) → read_items t rel (drop p.at s) ≡ ok x → Reads s (chunk_place s (behind p.at x.0)) xs → Reads s p (item_rows p.ssrc p.at x.0 ++ xs))
        → (bs : List ℕ) → bs ≡ drop p.at s → read_items (suc t) rel bs ≡ ok x → Reads s p (item_rows p.ssrc p.at x.0 ++ xs)
    go again [] b e = absurd (refused≢ok e)
    go again (zero ∷ bs) b e = bind_elim _ _ e (λ r q e₁.
        let n : x.0 ≡ [] = sym (ap (λ (y : List Item × List ℕ). y.0) (ok_injective e₁)) in
        let m : Reads s (chunk_place s (p.at + fill p.at)) xs = rw (n, add-zero) at g in
        rw n (reads_more s p _ _ xs (zero_here s p bs b) m))
    go again (suc b ∷ bs) d e = bind_elim _ _ e (λ y q e₁. bind_elim _ _ e₁ (λ z q₁ e₂.
        let n : x.0 ≡ y.0 ∷ z.0 = sym (ap (λ (y : List Item × List ℕ). y.0) (ok_injective e₂)) in
        let z₁ : get_or s p.at 0 ≡ 0 → ⊥ = λ h. absurd (omega (arith, first_at s p.at (suc b ∷ bs) d)) in
        let r : y.1 ≡ drop (p.at + length (item_bytes y.0)) s = item_rest_lem (suc b ∷ bs) q ∙ ap (drop (length (item_bytes y.0))) d ∙ drop-drop (length (item_bytes y.0)) p.at s in
        let l : behind p.at x.0 ≡ behind (p.at + length (item_bytes y.0)) z.0 = rw (n, length-append (item_bytes y.0) (items_bytes z.0), ← add_assoc p.at (length (item_bytes y.0)) (length (items_bytes z.0))) in
        let m = again _ (record { ssrc = p.ssrc; at = p.at + length (item_bytes y.0) }) z (rw r at q₁) (subst (λ (n : ℕ). Reads s (chunk_place s n) xs) l g) in
        rw (n, append_assoc (item_row p.ssrc p.at y.0))
        (reads_more s p _ _ _ (item_here s p y (omega (arith, ap length d, length-drop p.at s)) z₁ (rw d at q) (items_some t _ y.1 q₁)) m)))

-- ---- the chunks

abbrev ChunkRead : List ℕ → Chunk × List ℕ → Type 0
ChunkRead s x = (y : List Item × List ℕ) × (read_items (length s) 4 (drop 4 s) ≡ ok y) × (y.0 ≡ x.0.items) × (val (take 4 s) ≡ x.0.ssrc)

chunk_read : (s : List ℕ) {x : Chunk × List ℕ} → read_chunk s ≡ ok x → ChunkRead s x
unfolding read_chunk
chunk_read s e = bind_elim _ _ (need_inv _ _ _ _ _ e).1 (λ y q e₁. subst (ChunkRead s) (ok_injective e₁) (y, q, refl, refl))

-- a chunk that starts at a word boundary ends where its bytes do
chunk_behind : (at : ℕ) (c : Chunk) → at % 4 ≡ 0 → behind (at + 4) c.items ≡ at + length (chunk_bytes c)
unfolding chunk_bytes
chunk_behind at c h =
    let n : length (chunk_bytes c) ≡ 4 + length (items_bytes c.items) + fill (4 + length (items_bytes c.items)) = simp (length-append, length_be, length-replicate) (omega arith) in
    omega arith

chunks_read : (n body at : ℕ) (s : List ℕ) {cs : List Chunk} → at % 4 ≡ 0 → read_chunks n body (drop at s) ≡ ok cs → Reads s (chunk_place s at) (chunk_rows at cs)
unfolding read_chunks chunk_rows
chunks_read zero body at s {cs} h e = go (drop at s) refl e
  where
    go : (bs : List ℕ) → bs ≡ drop at s → read_chunks 0 body bs ≡ ok cs → Reads s (chunk_place s at) (chunk_rows at cs)
    go [] b e = rw (← ok_injective e) (reads_none s (chunk_place s at) (omega (arith, ap length b, length-drop at s)))
    go (x ∷ bs) b e = absurd (refused≢ok e)
chunks_read (suc n) body at s {cs} h e =
    bind_elim (read_chunk (drop at s)) _ e (λ x q e₁. bind_elim _ _ e₁ (λ ds q₁ e₂.
    let w = chunk_read (drop at s) q in
    let z = chunk_behind at x.0 h in
    let r : x.1 ≡ drop (at + length (chunk_bytes x.0)) s = (chunk_in (drop at s) q).rest ∙ drop-drop (length (chunk_bytes x.0)) at s in
    let m = chunks_read n body (at + length (chunk_bytes x.0)) s (rw (← z) (omega arith)) (rw r at q₁) in
    let g : Reads s (chunk_place s (behind (at + 4) w.0.0)) (chunk_rows (at + length (chunk_bytes x.0)) ds) = rw (w.2, z) m in
    let i : read_items (length (drop at s)) 4 (drop (at + 4) s) ≡ ok w.0 = rw (← drop-drop 4 at s) w.1 in
    let f = items_read (length (drop at s)) 4 s (chunk_place s at) {x = w.0} _ i g in
    let u : (chunk_place s at).ssrc ≡ x.0.ssrc = sym (ap (λ (p : Place). p.ssrc) (chunk_some s at _ (omega (arith, items_some _ 4 _ i, length-drop (at + 4) s)) refl)) ∙ w.3 in
    let t : item_rows (chunk_place s at).ssrc (at + 4) w.0.0 ≡ item_rows x.0.ssrc (at + 4) x.0.items = ap (λ (k : ℕ). item_rows k (at + 4) w.0.0) u ∙ ap (item_rows x.0.ssrc (at + 4)) w.2 in
    rw (← ok_injective e₂) (subst (λ (l : List ℕ). Reads s (chunk_place s at) (l ++ chunk_rows (at + length (chunk_bytes x.0)) ds)) t f)))

-- ---- the packet

module _ (s : List ℕ) (p : Packet) (e : read_as SDES s ≡ ok p) (b : ℕ) (v : (sdes_view p).body ≡ b) where
  pub packet_read : Reads (take b s) (chunk_place (take b s) 4) (sdes_rows p)
  packet_read =
      let g = got SDES s p e in
      let n : g.body ≡ b = sym (sdes_body s p g) ∙ v in
      let w = map_ok_inv sdes (read_chunks (low_in s) (length (take g.body s)) (drop 4 (take g.body s))) (sym (content_chunks s g.body g.enough g.within) ∙ g.content) in
      let f = chunks_read (low_in s) (length (take g.body s)) 4 (take g.body s) refl w.1 in
      subst (λ (m : ℕ). Reads (take m s) (chunk_place (take m s) 4) (sdes_rows p)) n (subst (λ (c : Content). Reads (take g.body s) (chunk_place (take g.body s) 4) (chunk_rows 4 (chunks_of c))) w.2 f)

  bytes_known : (s : List ℕ) → ((i : ℕ) → get_or s i 0 < 256) → Bytes s
  bytes_known [] h = tt
  bytes_known (b ∷ s) h = (h 0, bytes_known s (λ i. h (suc i)))

  pub packet_most : ((i : ℕ) → get_or s i 0 < 256) → b ≤ 262144
  packet_most h = let w = (packet_sound SDES s p (bytes_known s h) e).0 in omega (arith, w.size, w.words)
