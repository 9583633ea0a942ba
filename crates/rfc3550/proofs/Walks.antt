-- One law for every walk, and its instances: a datagram's packets, an SDES packet's chunks, a chunk's items.
use Rattle.rfc3550.proofs.Prelude.{ℕ, zero, suc, ◌+◌, ◌-◌, ◌/◌, ◌%◌, ◌<◌, ◌≤◌, ◌≡◌, refl, sym, ap, ◌∙◌, Bool, true, false, not, ◌||◌, List, [], ◌∷◌, ◌++◌, append_assoc, append-nil, arith, length, drop, get_or, replicate, length-append, drop-append_seam, take_all, eqb, lt-ltb, le-ltb, ne_eqb}
use Rattle.rfc3550.specs.Answer.{Answer, ok, refuse, ◌>>=◌, ◌>>◌, need}
use Rattle.rfc3550.specs.Bytes.{Bytes, be}
use Rattle.rfc3550.specs.Packet.{Item, item, priv, item_type, item_bytes, fill, Chunk, chunk_bytes, chunks_bytes, receiver, sender, Content, report, sdes, bye, app, unknown, Packet, padding_bit, content_bytes, layout, layouts, chunks_of, All, ItemValid, ChunkValid, Valid, OnlyLastPadded, starts_with_report}
use Rattle.rfc3550.specs.Read.{SDES, kind_for, nth, read_chunk, read_as}
use Rattle.rfc3550.specs.Compound.{read_compound}
use Rattle.rfc3550.specs.Walk.{open_walk, step, SdesWalk, open_sdes, sdes_step, open_items, item_step, gave, walked}
use Rattle.rfc3550.proofs.Answers.{true≢false}
use Rattle.rfc3550.proofs.Bytes.{length_be}
use Rattle.rfc3550.proofs.Chunks.{closed, closed_nil, closed_cons, item_complete, chunk_complete, chunk_sound, chunk_length}
use Rattle.rfc3550.proofs.Packets.{packet_sound, length_layout}
use Rattle.rfc3550.proofs.Compounds.{one_complete, follow_stated, last_of, tail_of, compound_sound}

module _ {A W : Type 0} (step : W → Answer (A × W)) (Left : W → List A → Type 0) where
  -- Left w xs: from the walk w on, the parts xs are left
  pub record Walks : Type 0 where
    pub none : (w : W) → Left w [] → step w ≡ refuse 25 0 0
    pub some : (w : W) (x : A) (xs : List A) → Left w (x ∷ xs) → (to : W) × (step w ≡ ok (x, to)) × Left to xs

  -- step i gives part i, and 25 once all are given
  pub walks : Walks → (i : ℕ) (w : W) (xs : List A) → Left w xs → gave (step (walked step w i)) ≡ nth i xs
  walks k zero w [] l = rw (k.none w l)
  walks k (suc i) w [] l = rw (k.none w l) (walks k i w [] l)
  walks k zero w (x ∷ xs) l = rw (k.some w x xs l).1
  walks k (suc i) w (x ∷ xs) l =
      let n = k.some w x xs l in
      rw n.1 (walks k i n.0 xs n.2)

-- what stands at a position of s
at_seam : (s pre r : List ℕ) (at : ℕ) → length pre ≡ at → pre ++ r ≡ s → (drop at s ≡ r) × (length s ≡ at + length r)
at_seam s pre r at n e = (
  ap (λ (k : ℕ). drop k s) (sym n) ∙ ap (drop (length pre)) (sym e) ∙ drop-append_seam pre r,
  ap length (sym e) ∙ length-append pre r ∙ ap (λ (k : ℕ). k + length r) n,
)

head_at : (s : List ℕ) (at b : ℕ) (r : List ℕ) → drop at s ≡ b ∷ r → (at < length s) × (get_or s at 0 ≡ b)
head_at [] zero b r e = absurd (let z : true ≡ false = cc in true≢false z)
head_at [] (suc at) b r e = absurd (let z : true ≡ false = cc in true≢false z)
head_at (x ∷ s) zero b r e = (omega arith, cc)
head_at (x ∷ s) (suc at) b r e = let k = head_at s at b r e in (omega arith, k.1)

-- ---- a datagram

record PacketsLeft (s : List ℕ) (at : ℕ) (ps : List Packet) : Type 0 where
  pre : List ℕ
  place : length pre ≡ at
  bytes : pre ++ layouts ps ≡ s
  valid : All Valid ps
  padding : OnlyLastPadded ps
  report : not (eqb at 0) || starts_with_report ps ≡ true

packets_none : (s : List ℕ) (at : ℕ) → PacketsLeft s at [] → step s at ≡ refuse 25 0 0
unfolding step need ◌>>◌ layouts
packets_none s at l = let e = (at_seam s l.pre [] at l.place l.bytes).1 in rw (le-ltb at (length s) (omega arith))

packets_some : (s : List ℕ) (at : ℕ) (p : Packet) (ps : List Packet) → PacketsLeft s at (p ∷ ps) → (to : ℕ) × (step s at ≡ ok (p, to)) × PacketsLeft s to ps
unfolding step need ◌>>◌ ◌>>=◌ layouts
packets_some s at p ps l =
    let v = l.valid.0 in
    let e = at_seam s l.pre (layout p ++ layouts ps) at l.place l.bytes in
    let n : 4 ≤ length (layout p) = rw (length_layout p) (omega arith) in
    let m : length (layout p ++ layouts ps) ≡ length (layout p) + length (layouts ps) = length-append (layout p) (layouts ps) in (
      at + length (layout p),
      simp (lt-ltb at (length s) (omega (arith, e.1)), e.0, one_complete p v (layouts ps) (eqb at 0) (last_of p ps l.padding) l.report, follow_stated p v (layouts ps)),
      record {
        pre = l.pre ++ layout p;
        place = length-append l.pre (layout p) ∙ ap (λ (k : ℕ). k + length (layout p)) l.place;
        bytes = append_assoc l.pre (layout p) (layouts ps) ∙ l.bytes;
        valid = l.valid.1;
        padding = tail_of p ps l.padding;
        report = rw (ne_eqb (at + length (layout p)) 0 (omega arith));
      },
    )

-- step i of a walk opened on an accepted datagram gives packet i, and 25 once all are given
pub walk_gives : (s : List ℕ) (ps : List Packet) → Bytes s → read_compound s ≡ ok ps
    → (open_walk s ≡ ok 0) × ((i : ℕ) → gave (step s (walked (step s) 0 i)) ≡ nth i ps)
unfolding open_walk ◌>>=◌
walk_gives s ps h e =
    let c = compound_sound s ps h e in (
      rw e,
      λ i. walks (step s) (PacketsLeft s) (record { none = packets_none s; some = packets_some s }) i 0 ps
          (record { pre = []; place = refl; bytes = c.1; valid = c.0.valid; padding = c.0.padding; report = c.0.report }),
    )

-- ---- an SDES packet

record ChunksLeft (s : List ℕ) (w : SdesWalk) (cs : List Chunk) : Type 0 where
  pre : List ℕ
  rest : List ℕ
  place : length pre ≡ w.at
  bytes : pre ++ (chunks_bytes cs ++ rest) ≡ s
  end : w.end ≡ w.at + length (chunks_bytes cs)
  valid : All ChunkValid cs

-- whichever of the two tests fails, it is 25
either : {B : Type 0} (t : Bool) (r : Answer B) → (need t 25 0 0 >> (need false 25 0 0 >> r)) ≡ refuse 25 0 0
unfolding need ◌>>◌
either true r = refl
either false r = refl

chunks_none : (s : List ℕ) (w : SdesWalk) → ChunksLeft s w [] → sdes_step s w ≡ refuse 25 0 0
unfolding sdes_step chunks_bytes
chunks_none s w l = rw (le-ltb w.at w.end (omega (arith, l.end))) (either _ _)

chunks_some : (s : List ℕ) (w : SdesWalk) (c : Chunk) (cs : List Chunk) → length s ≤ 262144 → ChunksLeft s w (c ∷ cs) → (to : SdesWalk) × (sdes_step s w ≡ ok (c, to)) × ChunksLeft s to cs
unfolding sdes_step need ◌>>◌ ◌>>=◌ chunks_bytes
chunks_some s w c cs short l =
    let r : List ℕ = chunks_bytes cs ++ l.rest in
    let b : l.pre ++ (chunk_bytes c ++ r) ≡ s = ap (λ (x : List ℕ). l.pre ++ x) (sym (append_assoc (chunk_bytes c) (chunks_bytes cs) l.rest)) ∙ l.bytes in
    let e = at_seam s l.pre (chunk_bytes c ++ r) w.at l.place b in
    let n = chunk_length c r in
    let m = length-append (chunk_bytes c) r in
    let k = chunk_length c [] in
    let z : length (chunk_bytes c ++ []) ≡ length (chunk_bytes c) = ap length (append-nil (chunk_bytes c)) in
    let x = length-append (chunk_bytes c) (chunks_bytes cs) in (
      record { at = w.at + length (chunk_bytes c); end = w.end },
      rw (take_all 262144 s short, lt-ltb w.at (length s) (omega (arith, e.1)), lt-ltb w.at w.end (omega (arith, l.end)), e.0, chunk_complete c r l.valid.0),
      record {
        pre = l.pre ++ chunk_bytes c;
        rest = l.rest;
        place = length-append l.pre (chunk_bytes c) ∙ ap (λ (k : ℕ). k + length (chunk_bytes c)) l.place;
        bytes = append_assoc l.pre (chunk_bytes c) r ∙ b;
        end = omega (arith, l.end);
        valid = l.valid.1;
      },
    )

record Opened (s : List ℕ) (p : Packet) : Type 0 where
  short : length s ≤ 262144
  left : ChunksLeft s (record { at = 4; end = length s - length p.padding }) (chunks_of p.content)

opened_sdes : (s : List ℕ) (c : Content) (padding : List ℕ) → kind_for c ≡ SDES → Valid (record { content = c; padding = padding })
    → layout (record { content = c; padding = padding }) ≡ s → Opened s (record { content = c; padding = padding })
unfolding layout content_bytes
opened_sdes s (report (sender ssrc ntp rtp packets octets) bs e) padding k v q = absurd (let z : true ≡ false = cc in true≢false z)
opened_sdes s (report (receiver ssrc) bs e) padding k v q = absurd (let z : true ≡ false = cc in true≢false z)
opened_sdes s (bye ss l) padding k v q = absurd (let z : true ≡ false = cc in true≢false z)
opened_sdes s (app subtype ssrc name d) padding k v q = absurd (let z : true ≡ false = cc in true≢false z)
opened_sdes s (unknown t low b) padding k v q = absurd (let z : true ≡ false = cc in true≢false z)
opened_sdes s (sdes cs) padding k v q =
    let n = length_layout (record { content = sdes cs; padding = padding }) in
    let m : length s ≡ 4 + (length (chunks_bytes cs) + length padding) = ap length (sym q) ∙ n in
    record {
      short = omega (arith, v.size, v.words);
      left = record {
        pre = (128 + padding_bit padding + length cs) ∷ 202 ∷ be 2 ((length (chunks_bytes cs) + length padding) / 4);
        rest = padding;
        place = rw length_be;
        bytes = q;
        end = omega arith;
        valid = v.content;
      };
    }

-- step i of a walk opened on an accepted packet gives chunk i with its items, and 25 once all are given
pub sdes_walk_gives : (s : List ℕ) (p : Packet) → Bytes s → read_as SDES s ≡ ok p
    → (w : SdesWalk) × (open_sdes s ≡ ok w) × ((i : ℕ) → gave (sdes_step s (walked (sdes_step s) w i)) ≡ nth i (chunks_of p.content))
unfolding open_sdes ◌>>=◌
sdes_walk_gives s p h e =
    let v = packet_sound SDES s p h e in
    let o = opened_sdes s p.content p.padding v.1 v.0 v.2 in (
      record { at = 4; end = length s - length p.padding },
      rw e,
      λ i. walks (sdes_step s) (ChunksLeft s) (record { none = chunks_none s; some = λ w c cs l. chunks_some s w c cs o.short l }) i _ (chunks_of p.content) o.left,
    )

-- ---- a chunk

record ItemsLeft (s : List ℕ) (at : ℕ) (is : List Item) : Type 0 where
  pre : List ℕ
  rest : List ℕ
  place : length pre ≡ at
  bytes : pre ++ (closed at is ++ rest) ≡ s
  valid : All ItemValid is

items_none : (s : List ℕ) (at : ℕ) → ItemsLeft s at [] → item_step s at ≡ refuse 25 0 0
unfolding item_step need ◌>>◌
items_none s at l =
    let f : fill at ≡ suc (3 - at % 4) = omega arith in
    let e = (at_seam s l.pre (closed at [] ++ l.rest) at l.place l.bytes).0 ∙ closed_nil at l.rest refl ∙ ap (λ (k : ℕ). replicate k 0 ++ l.rest) f in
    let h = head_at s at 0 _ e in
    simp (lt-ltb at (length s) h.0, h.1)

type_pos : (i : Item) → ItemValid i → item_type i ≡ 0 → ⊥
type_pos (item t v) h e = omega (arith, h.0)
type_pos (priv p v) h e = omega arith

items_some : (s : List ℕ) (at : ℕ) (i : Item) (is : List Item) → ItemsLeft s at (i ∷ is) → (to : ℕ) × (item_step s at ≡ ok (i, to)) × ItemsLeft s to is
unfolding item_step need ◌>>◌ ◌>>=◌
items_some s at i is l =
    let r : List ℕ = closed (at + length (item_bytes i)) is ++ l.rest in
    let b : l.pre ++ (item_bytes i ++ r) ≡ s = ap (λ (x : List ℕ). l.pre ++ x) (sym (closed_cons at i is l.rest)) ∙ l.bytes in
    let e = (at_seam s l.pre (item_bytes i ++ r) at l.place b).0 in
    let h = head_at s at (item_type i) _ e in (
      at + length (item_bytes i),
      rw (lt-ltb at (length s) h.0, h.1, ne_eqb (item_type i) 0 (type_pos i l.valid.0), e, item_complete i r l.valid.0),
      record {
        pre = l.pre ++ item_bytes i;
        rest = l.rest;
        place = length-append l.pre (item_bytes i) ∙ ap (λ (k : ℕ). k + length (item_bytes i)) l.place;
        bytes = append_assoc l.pre (item_bytes i) r ∙ b;
        valid = l.valid.1;
      },
    )

-- step i of a walk opened on an accepted chunk gives item i, and 25 once all are given
pub item_walk_gives : (s : List ℕ) (x : Chunk × List ℕ) → Bytes s → read_chunk s ≡ ok x
    → (open_items s ≡ ok 4) × ((i : ℕ) → gave (item_step s (walked (item_step s) 4 i)) ≡ nth i x.0.items)
unfolding open_items ◌>>=◌ chunk_bytes
item_walk_gives s x h e =
    let g = chunk_sound s h e in (
      rw e,
      λ i. walks (item_step s) (ItemsLeft s) (record { none = items_none s; some = items_some s }) i 4 x.0.items
          (record { pre = be 4 x.0.ssrc; rest = x.1; place = length_be 4 x.0.ssrc; bytes = sym (append_assoc (be 4 x.0.ssrc) (closed 4 x.0.items) x.1) ∙ g.bytes; valid = g.valid.1 }),
    )
