-- What an accepted item and an accepted chunk say of the bytes that they were read from, whatever these are.
use Rattle.rfc3550.proofs.Prelude.{ℕ, zero, suc, ◌+◌, ◌-◌, ◌<◌, ◌≤◌, ◌≡◌, refl, sym, ap, ◌∙◌, subst, Bool, true, false, List, [], ◌∷◌, ◌++◌, append_assoc, arith, add-zero, add_assoc, length, take, drop, replicate, length-append, length-drop, take-append-drop, length-take-le, take-append_seam, drop-append_seam, drop-drop, eqb, leb-true, eqb-true, eq-eqb}
use Rattle.rfc3550.specs.Answer.{ok, refuse, ◌>>=◌, map_ok}
use Rattle.rfc3550.specs.Packet.{Item, item, priv, item_type, item_rest, item_bytes, items_bytes, fill, Chunk, chunk_bytes, chunks_bytes}
use Rattle.rfc3550.specs.Read.{item_of, read_item, read_items, read_chunk, read_chunks, prefix_of, read_prefix}
use Rattle.rfc3550.proofs.Answers.{need_inv, bind_elim, ok_injective, refused≢ok, true≢false}
use Rattle.rfc3550.proofs.Bytes.{length_be}
use Rattle.rfc3550.proofs.Chunks.{fill_sound}
use Rattle.sdes_chunk.specs.declared.item.SdesItem.{SdesItem}
use Rattle.sdes_chunk.specs.Item.{item_view, value_of, value_start, prefix_length}

abbrev pub is_priv : Item → Bool
is_priv (item t v) = false
is_priv (priv p v) = true

abbrev Made : ℕ → List ℕ → Item → Type 0
Made t v i = (item_type i ≡ t) × (item_rest i ≡ v) × (is_priv i ≡ eqb t 8)

item_of_made : (t : ℕ) (b : Bool) (v : List ℕ) {i : Item} → eqb t 8 ≡ b → item_of b t v ≡ ok i → Made t v i
unfolding item_of
item_of_made t false v q e = subst (Made t v) (ok_injective e) (refl, refl, sym q)
item_of_made t true [] q e = absurd (refused≢ok e)
item_of_made t true (p ∷ v) q e =
    let n = need_inv _ _ _ _ _ e in
    subst (Made t (p ∷ v)) (ok_injective n.1)
    (sym (eqb-true t 8 q), rw (length-take-le p v (leb-true _ _ n.0), take-append-drop p v), sym q)

-- an item stands at the front of what it was read from, and is PRIV exactly if its type is 8
pub record ItemIn (s : List ℕ) (x : Item × List ℕ) : Type 0 where
  pub bytes : item_bytes x.0 ++ x.1 ≡ s
  pub kind : is_priv x.0 ≡ eqb (item_type x.0) 8

pub item_in : (s : List ℕ) {x : Item × List ℕ} → read_item s ≡ ok x → ItemIn s x
unfolding read_item
item_in [] e = absurd (refused≢ok e)
item_in (t ∷ []) e = absurd (refused≢ok e)
item_in (t ∷ n ∷ s) e =
    let a = need_inv _ _ _ _ _ e in
    bind_elim _ _ a.1 (λ i q e₁.
    let g = item_of_made t _ (take n s) refl q in
    subst (ItemIn (t ∷ n ∷ s)) (ok_injective e₁)
    (record { bytes = rw (g.0, g.1, length-take-le n s (leb-true _ _ a.0), take-append-drop n s); kind = rw g.0 g.2 }))

pub item_length_lem : (s : List ℕ) {x : Item × List ℕ} → read_item s ≡ ok x → length (item_bytes x.0) + length x.1 ≡ length s
item_length_lem s {x} e = sym (length-append (item_bytes x.0) x.1) ∙ ap length (item_in s e).bytes

-- what is left after it
pub item_rest_lem : (s : List ℕ) {x : Item × List ℕ} → read_item s ≡ ok x → x.1 ≡ drop (length (item_bytes x.0)) s
item_rest_lem s {x} e = sym (drop-append_seam (item_bytes x.0) x.1) ∙ ap (drop (length (item_bytes x.0))) (item_in s e).bytes

-- ---- where the parts of an item stand

pub record Placed (s : List ℕ) (i : SdesItem) (v : List ℕ) : Type 0 where
  pub within : 2 + i.length ≤ length s
  pub start : value_start i ≤ 2 + i.length
  pub room : (m : ℕ) → 4 ≤ m → length s < m → 3 + i.prefix_len < m
  pub value : take (2 + i.length - value_start i) (drop (value_start i) s) ≡ v

placed_bytes : (i : Item) (r : List ℕ) → is_priv i ≡ eqb (item_type i) 8 → Placed (item_bytes i ++ r) (item_view i) (value_of i)
placed_bytes (item t v) r k =
    let n : 2 + length v - 2 ≡ length v = omega arith in
    let z : value_start (item_view (item t v)) ≡ 2 = rw (sym k) in
    record { within = rw length-append (omega arith); start = rw z (omega arith); room = λ m a b. omega arith; value = rw (z, n) (take-append_seam v r) }
placed_bytes (priv p v) r k =
    let n : 2 + suc (length (p ++ v)) - (3 + length p) ≡ length v = rw length-append (omega arith) in
    let q : 3 + length p ≡ suc (suc (suc (length p))) = omega arith in
    record {
      within = simp length-append (omega arith);
      start = rw length-append (omega arith);
      room = λ m a b. omega (arith, simp length-append at b);
      value = rw (n, q, append_assoc p v r, drop-append_seam p (v ++ r)) (take-append_seam v r);
    }

pub item_placed : (s : List ℕ) {x : Item × List ℕ} → read_item s ≡ ok x → Placed s (item_view x.0) (value_of x.0)
item_placed s {x} e = let g = item_in s e in subst (λ (s : List ℕ). Placed s (item_view x.0) (value_of x.0)) g.bytes (placed_bytes x.0 x.1 g.kind)

-- ---- the prefix

-- by the type that was read: 30, or the prefix, which stands behind its length
prefix_other : (i : Item) → is_priv i ≡ eqb (item_type i) 8 → (item_type i ≡ 8 → ⊥) → prefix_of i ≡ refuse 30 (item_type i) 0
prefix_other (item t v) k h = refl
prefix_other (priv p v) k h = absurd (h refl)

prefix_own : (i : Item) → is_priv i ≡ eqb (item_type i) 8 → item_type i ≡ 8 → map_ok length (prefix_of i) ≡ ok (prefix_length i)
unfolding map_ok
prefix_own (item t v) k h = absurd (true≢false (sym (k ∙ eq-eqb t 8 h)))
prefix_own (priv p v) k h = refl

module _ (s : List ℕ) {x : Item × List ℕ} (e : read_item s ≡ ok x) where
  pub prefix_not : (item_type x.0 ≡ 8 → ⊥) → read_prefix s ≡ refuse 30 (item_type x.0) 0
  unfolding read_prefix ◌>>=◌
  prefix_not h = rw (e, prefix_other x.0 (item_in s e).kind h)

  pub prefix_length_lem : item_type x.0 ≡ 8 → map_ok length (read_prefix s) ≡ ok (prefix_length x.0)
  unfolding read_prefix ◌>>=◌
  prefix_length_lem h = rw e (prefix_own x.0 (item_in s e).kind h)

abbrev PrefixIn : List ℕ → List ℕ → Type 0
PrefixIn p s = (3 + length p ≤ length s) × (take (length p) (drop 3 s) ≡ p)

prefix_bytes_lem : (i : Item) (r : List ℕ) {p : List ℕ} → prefix_of i ≡ ok p → PrefixIn p (item_bytes i ++ r)
prefix_bytes_lem (item t v) r e = absurd (refused≢ok e)
prefix_bytes_lem (priv p v) r e =
    subst (λ (q : List ℕ). PrefixIn q (item_bytes (priv p v) ++ r)) (ok_injective e)
    (simp length-append (omega arith), rw (append_assoc p v r) (take-append_seam p (v ++ r)))

prefix_in_lem : (s : List ℕ) {p : List ℕ} → read_prefix s ≡ ok p → PrefixIn p s
unfolding read_prefix
prefix_in_lem s {p} e = bind_elim _ _ e (λ x q e₁. subst (PrefixIn p) (item_in s q).bytes (prefix_bytes_lem x.0 x.1 e₁))

-- the part from 3 on that has the prefix's length
pub prefix_taken : (s : List ℕ) (n : ℕ) {p : List ℕ} → read_prefix s ≡ ok p → length p ≡ n → (3 + n ≤ length s) × (take (3 + n - 3) (drop 3 s) ≡ p)
prefix_taken s n {p} e h = let m : 3 + length p - 3 ≡ length p = omega arith in rw (← h) ((prefix_in_lem s e).0, rw m (prefix_in_lem s e).1)

-- ---- a chunk

-- the items and the zeros that close them, where the first item stands at `at`
abbrev closed : ℕ → List Item → List ℕ
closed at is = items_bytes is ++ replicate (fill (at + length (items_bytes is))) 0

join : (at : ℕ) (a b r : List ℕ)
    → ((a ++ b) ++ replicate (fill (at + length (a ++ b))) 0) ++ r ≡ a ++ ((b ++ replicate (fill (at + length a + length b)) 0) ++ r)
join at a b r = rw (length-append a b, ← add_assoc at (length a) (length b)) (simp append_assoc)

items_in : (f at : ℕ) (s : List ℕ) {x : List Item × List ℕ} → read_items f at s ≡ ok x → closed at x.0 ++ x.1 ≡ s
unfolding read_items items_bytes
items_in zero at s e = absurd (refused≢ok e)
items_in (suc f) at [] e = absurd (refused≢ok e)
items_in (suc f) at (zero ∷ s) e =
    bind_elim _ _ e (λ r q e₁.
    subst (λ (x : List Item × List ℕ). closed at x.0 ++ x.1 ≡ 0 ∷ s) (ok_injective e₁) (rw add-zero (fill_sound (fill at) at (0 ∷ s) q)))
items_in (suc f) at (suc t ∷ s) e =
    bind_elim _ _ e (λ x q e₁. bind_elim _ _ e₁ (λ y q₁ e₂.
    subst (λ (x : List Item × List ℕ). closed at x.0 ++ x.1 ≡ suc t ∷ s) (ok_injective e₂)
    (join at (item_bytes x.0) (items_bytes y.0) y.1 ∙ rw (items_in f (at + length (item_bytes x.0)) x.1 q₁) (item_in (suc t ∷ s) q).bytes)))

-- a chunk's bytes are as many as were read, and what is left stands behind them
pub record ChunkIn (s : List ℕ) (x : Chunk × List ℕ) : Type 0 where
  pub size : length (chunk_bytes x.0) + length x.1 ≡ length s
  pub rest : x.1 ≡ drop (length (chunk_bytes x.0)) s

pub chunk_in : (s : List ℕ) {x : Chunk × List ℕ} → read_chunk s ≡ ok x → ChunkIn s x
unfolding read_chunk chunk_bytes
chunk_in s e =
    let n = need_inv _ _ _ _ _ e in
    let l : 4 ≤ length s = leb-true _ _ n.0 in
    bind_elim _ _ n.1 (λ x q e₁.
    let g : closed 4 x.0 ++ x.1 ≡ drop 4 s = items_in (length s) 4 (drop 4 s) q in
    subst (ChunkIn s) (ok_injective e₁)
    (record {
      size = rw (length-append, length_be) (omega (arith, length-append (closed 4 x.0) x.1, ap length g, length-drop 4 s));
      rest = rw (length-append, length_be) (sym (drop-append_seam (closed 4 x.0) x.1) ∙ ap (drop (length (closed 4 x.0))) g ∙ drop-drop (length (closed 4 x.0)) 4 s);
    }))

pub chunks_in : (n body : ℕ) (s : List ℕ) {cs : List Chunk} → read_chunks n body s ≡ ok cs → (length cs ≡ n) × (length (chunks_bytes cs) ≡ length s)
unfolding read_chunks chunks_bytes
chunks_in zero body [] e = subst (λ (cs : List Chunk). (length cs ≡ 0) × (length (chunks_bytes cs) ≡ 0)) (ok_injective e) (refl, refl)
chunks_in zero body (b ∷ s) e = absurd (refused≢ok e)
chunks_in (suc n) body s e =
    bind_elim _ _ e (λ x q e₁. bind_elim _ _ e₁ (λ cs q₁ e₂.
    let k = chunks_in n body x.1 q₁ in
    subst (λ (cs : List Chunk). (length cs ≡ suc n) × (length (chunks_bytes cs) ≡ length s)) (ok_injective e₂)
    (ap suc k.0, rw length-append (omega (arith, (chunk_in s q).size)))))
