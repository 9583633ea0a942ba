-- SDES: the readers of fill, items and chunks against their layouts, both ways.
use Rattle.rfc3550.proofs.Prelude.{ℕ, zero, suc, ◌+◌, ◌-◌, ◌%◌, ◌<◌, ◌≤◌, ◌≡◌, refl, sym, ap, ◌∙◌, subst, Bool, true, false, List, [], ◌∷◌, ◌++◌, append_assoc, arith, add-zero, add_assoc, length, take, drop, replicate, length-append, length-drop, take-append-drop, take_at, drop_at, length-take-le, take-append_seam, drop-append_seam, eqb, le-leb, leb-true, eqb-true, eqb-false, ne_eqb}
use Rattle.rfc3550.specs.Answer.{ok, ◌>>=◌, ◌>>◌, need}
use Rattle.rfc3550.specs.Bytes.{Bytes, be}
use Rattle.rfc3550.specs.Packet.{Item, item, priv, Chunk, item_type, item_rest, item_bytes, items_bytes, chunk_bytes, chunks_bytes, fill, All, ItemValid, ChunkValid}
use Rattle.rfc3550.specs.Read.{read_fill, item_of, read_item, read_items, read_chunk, read_chunks}
use Rattle.rfc3550.proofs.Answers.{need_inv, bind_elim, ok_injective, refused≢ok}
use Rattle.rfc3550.proofs.Bytes.{length_be, val_be, be_take, val_take_lt, bytes_take, bytes_drop, bytes_after}

-- ---- fill

fill_complete : (k at : ℕ) (r : List ℕ) → read_fill k at (replicate k 0 ++ r) ≡ ok r
unfolding read_fill
fill_complete zero at r = refl
fill_complete (suc k) at r = fill_complete k (at + 1) r

pub fill_sound : (k at : ℕ) (bs : List ℕ) {r : List ℕ} → read_fill k at bs ≡ ok r → replicate k 0 ++ r ≡ bs
unfolding read_fill
fill_sound zero at bs e = sym (ok_injective e)
fill_sound (suc k) at [] e = cc
fill_sound (suc k) at (zero ∷ bs) e = ap (λ (l : List ℕ). 0 ∷ l) (fill_sound k (at + 1) bs e)
fill_sound (suc k) at (suc b ∷ bs) e = cc

pub item_complete : (i : Item) (r : List ℕ) → ItemValid i → read_item (item_bytes i ++ r) ≡ ok (i, r)
unfolding read_item item_of need ◌>>◌ ◌>>=◌
item_complete (item t v) r h =
    simp (le-leb (length v) (length (v ++ r)) (rw length-append (omega arith)), ne_eqb t 8 h.2, take-append_seam v r, drop-append_seam v r)
item_complete (priv p v) r h =
    simp (
      le-leb (length (item_rest (priv p v))) (length (item_rest (priv p v) ++ r)) (simp length-append (omega arith)),
      take-append_seam (p ++ v) r,
      drop-append_seam (p ++ v) r,
      le-leb (length p) (length (p ++ v)) (rw length-append (omega arith)),
      take-append_seam p v,
      drop-append_seam p v,
    )

-- what a reader that answers a value and the rest has read
pub record Got {A : Type 0} (P : A → Type 0) (B : A → List ℕ) (bs : List ℕ) (x : A × List ℕ) : Type 0 where
  pub valid : P x.0
  pub bytes : B x.0 ++ x.1 ≡ bs

abbrev ItemGot : ℕ → List ℕ → Item → Type 0
ItemGot t v i = ItemValid i × (item_type i ≡ t) × (item_rest i ≡ v)

item_of_sound : (t : ℕ) (b : Bool) (v : List ℕ) {i : Item} → eqb t 8 ≡ b → 0 < t → t < 256 → length v < 256 → Bytes v → item_of b t v ≡ ok i → ItemGot t v i
unfolding item_of
item_of_sound t false v q pos small short h e = subst (ItemGot t v) (ok_injective e) ((pos, small, eqb-false t 8 q, short, h), refl, refl)
item_of_sound t true [] q pos small short h e = absurd (refused≢ok e)
item_of_sound t true (p ∷ v) q pos small short h e =
    let n = need_inv _ _ _ _ _ e in
    let l : p ≤ length v = leb-true _ _ n.0 in
    subst (ItemGot t (p ∷ v)) (ok_injective n.1)
    ((simp (length-take-le, length-drop) (omega arith), bytes_take p v h.1, bytes_drop p v h.1), sym (eqb-true t 8 q), rw (length-take-le p v l, take-append-drop p v))

item_sound : (t : ℕ) (bs : List ℕ) {x : Item × List ℕ} → 0 < t → Bytes (t ∷ bs) → read_item (t ∷ bs) ≡ ok x → Got ItemValid item_bytes (t ∷ bs) x
unfolding read_item
item_sound t [] pos h e = absurd (refused≢ok e)
item_sound t (n ∷ bs) {x} pos h e =
    let a = need_inv _ _ _ _ _ e in
    let l : n ≤ length bs = leb-true _ _ a.0 in
    bind_elim _ _ a.1 (λ i q e₁.
    let g : ItemGot t (take n bs) i = item_of_sound t _ (take n bs) refl pos h.0 (rw (length-take-le n bs l) h.1.0) (bytes_take n bs h.1.1) q in
    subst (Got ItemValid item_bytes (t ∷ n ∷ bs)) (ok_injective e₁)
    (record { valid = g.0; bytes = rw (g.1, g.2, length-take-le n bs l, take-append-drop n bs) }))

-- ---- items, to the boundary

-- the items and the zeros that close them, where the first item stands at `at`
abbrev pub closed : ℕ → List Item → List ℕ
closed at is = items_bytes is ++ replicate (fill (at + length (items_bytes is))) 0

pub closed_nil : (at : ℕ) (r : List ℕ) {bs : List ℕ} → replicate (fill at) 0 ++ r ≡ bs → closed at [] ++ r ≡ bs
unfolding items_bytes
closed_nil at r e = rw add-zero e

join : (at : ℕ) (a b r : List ℕ)
    → ((a ++ b) ++ replicate (fill (at + length (a ++ b))) 0) ++ r ≡ a ++ ((b ++ replicate (fill (at + length a + length b)) 0) ++ r)
join at a b r = rw (length-append a b, ← add_assoc at (length a) (length b)) (simp append_assoc)

pub closed_cons : (at : ℕ) (i : Item) (is : List Item) (r : List ℕ) → closed at (i ∷ is) ++ r ≡ item_bytes i ++ (closed (at + length (item_bytes i)) is ++ r)
unfolding items_bytes
closed_cons at i is r = join at (item_bytes i) (items_bytes is) r

items_nil : (f at : ℕ) (r : List ℕ) → read_items (suc f) at (replicate (fill at) 0 ++ r) ≡ ok ([], r)
unfolding read_items ◌>>=◌
items_nil f at r =
    let e : fill at ≡ suc (3 - at % 4) = omega arith in
    rw e (rw e (rw (fill_complete (suc (3 - at % 4)) at r)))

items_cons : (i : Item) (f at : ℕ) (bs : List ℕ) {x : List Item × List ℕ} → ItemValid i
    → read_items f (at + length (item_bytes i)) bs ≡ ok x → read_items (suc f) at (item_bytes i ++ bs) ≡ ok (i ∷ x.0, x.1)
unfolding read_items ◌>>=◌
items_cons (item zero v) f at bs h e = absurd (omega arith)
items_cons (item (suc t) v) f at bs h e = rw (item_complete (item (suc t) v) bs h, e)
items_cons (priv p v) f at bs h e = rw (item_complete (priv p v) bs h, e)

items_complete : (is : List Item) (f at : ℕ) (r : List ℕ) → All ItemValid is → length is < f → read_items f at (closed at is ++ r) ≡ ok (is, r)
items_complete [] zero at r h l = absurd (omega arith)
items_complete [] (suc f) at r h l = rw (closed_nil at r refl) (items_nil f at r)
items_complete (i ∷ is) zero at r h l = absurd (omega arith)
items_complete (i ∷ is) (suc f) at r h l =
    rw (closed_cons at i is r) (items_cons i f at _ h.0 (items_complete is f (at + length (item_bytes i)) r h.1 (omega arith)))

items_sound : (f at : ℕ) (bs : List ℕ) {x : List Item × List ℕ} → Bytes bs → read_items f at bs ≡ ok x → Got (All ItemValid) (closed at) bs x
unfolding read_items
items_sound zero at bs h e = absurd (refused≢ok e)
items_sound (suc f) at [] h e = absurd (refused≢ok e)
items_sound (suc f) at (zero ∷ bs) h e =
    bind_elim _ _ e (λ r q e₁.
    subst (Got (All ItemValid) (closed at) (0 ∷ bs)) (ok_injective e₁) (record { valid = tt; bytes = closed_nil at r (fill_sound (fill at) at (0 ∷ bs) q) }))
items_sound (suc f) at (suc t ∷ bs) h e =
    bind_elim _ _ e (λ x q e₁. bind_elim _ _ e₁ (λ y q₁ e₂.
    let g = item_sound (suc t) bs (omega arith) h q in
    let k = items_sound f (at + length (item_bytes x.0)) x.1 (bytes_after (item_bytes x.0) x.1 g.bytes h) q₁ in
    subst (Got (All ItemValid) (closed at) (suc t ∷ bs)) (ok_injective e₂) (record { valid = (g.valid, k.valid); bytes = closed_cons at x.0 y.0 y.1 ∙ rw k.bytes g.bytes })))

-- ---- chunks

items_le : (is : List Item) → length is ≤ length (items_bytes is)
unfolding items_bytes
items_le [] = omega arith
items_le (i ∷ is) = rw (length-append (item_bytes i) (items_bytes is)) (omega (arith, items_le is))

pub chunk_length : (c : Chunk) (r : List ℕ) → length (chunk_bytes c ++ r) ≡ 4 + length (closed 4 c.items ++ r)
unfolding chunk_bytes
chunk_length c r = rw (append_assoc (be 4 c.ssrc) (closed 4 c.items) r, length-append (be 4 c.ssrc), length_be 4 c.ssrc)

pub chunk_complete : (c : Chunk) (r : List ℕ) → ChunkValid c → read_chunk (chunk_bytes c ++ r) ≡ ok (c, r)
unfolding read_chunk chunk_bytes need ◌>>◌ ◌>>=◌
chunk_complete c r h =
    let l = chunk_length c r in
    rw (
      le-leb 4 (length (chunk_bytes c ++ r)) (omega arith),
      append_assoc (be 4 c.ssrc) (closed 4 c.items) r,
      drop_at (be 4 c.ssrc) (closed 4 c.items ++ r) 4 (length_be 4 c.ssrc),
      take_at (be 4 c.ssrc) (closed 4 c.items ++ r) 4 (length_be 4 c.ssrc),
      val_be 4 c.ssrc h.0,
      items_complete c.items (length (be 4 c.ssrc ++ (closed 4 c.items ++ r))) 4 r h.1 (simp (length-append, length_be) (omega (arith, items_le c.items))),
    )

pub chunk_sound : (bs : List ℕ) {x : Chunk × List ℕ} → Bytes bs → read_chunk bs ≡ ok x → Got ChunkValid chunk_bytes bs x
unfolding read_chunk chunk_bytes
chunk_sound bs h e =
    let n = need_inv _ _ _ _ _ e in
    let l : 4 ≤ length bs = leb-true _ _ n.0 in
    bind_elim _ _ n.1 (λ x q e₁.
    let g = items_sound (length bs) 4 (drop 4 bs) (bytes_drop 4 bs h) q in
    subst (Got ChunkValid chunk_bytes bs) (ok_injective e₁)
    (record { valid = (val_take_lt 4 bs l h, g.valid); bytes = rw (be_take 4 bs l h, append_assoc, g.bytes) (take-append-drop 4 bs) }))

pub chunks_complete : (cs : List Chunk) (total : ℕ) → All ChunkValid cs → read_chunks (length cs) total (chunks_bytes cs) ≡ ok cs
unfolding read_chunks chunks_bytes ◌>>=◌
chunks_complete [] total h = refl
chunks_complete (c ∷ cs) total h = rw (chunk_complete c (chunks_bytes cs) h.0, chunks_complete cs total h.1)

pub chunks_sound : (n total : ℕ) (bs : List ℕ) {cs : List Chunk} → Bytes bs → read_chunks n total bs ≡ ok cs
    → All ChunkValid cs × (chunks_bytes cs ≡ bs) × (length cs ≡ n)
unfolding read_chunks chunks_bytes
chunks_sound zero total [] h e = subst (λ (cs : List Chunk). All ChunkValid cs × (chunks_bytes cs ≡ []) × (length cs ≡ 0)) (ok_injective e) (tt, refl, refl)
chunks_sound zero total (b ∷ bs) h e = absurd (refused≢ok e)
chunks_sound (suc n) total bs h e =
    bind_elim _ _ e (λ x q e₁. bind_elim _ _ e₁ (λ cs q₁ e₂.
    let g = chunk_sound bs h q in
    let k = chunks_sound n total x.1 (bytes_after (chunk_bytes x.0) x.1 g.bytes h) q₁ in
    subst (λ (cs : List Chunk). All ChunkValid cs × (chunks_bytes cs ≡ bs) × (length cs ≡ suc n)) (ok_injective e₂)
    ((g.valid, k.0), rw k.1 g.bytes, ap suc k.2)))
