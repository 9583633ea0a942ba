-- The bytes at a place are the part that stands there: one law, and what it says of the parts of every kind of packet.
use Rattle.rfc3550.proofs.Prelude.{ℕ, ◌+◌, ◌-◌, ◌*◌, ◌/◌, ◌≡◌, refl, sym, ap, ◌∙◌, subst, List, [], ◌∷◌, ◌++◌, append_assoc, append-nil, arith, length, take, drop, replicate, length-append, take_at, drop_at, eqb}
use Rattle.rfc3550.specs.Answer.{ok}
use Rattle.rfc3550.specs.Bytes.{Bytes, be, put, Fits, sum}
use Rattle.rfc3550.specs.Packet.{Block, Reporter, receiver, sender, item, priv, item_rest, item_bytes, Chunk, chunk_bytes, no_reason, reason, report, bye, app, unknown, Packet, reporter_widths, reporter_fields, blocks_bytes, content_bytes, padding_bit, low_bits, type, layout, ChunkValid, ContentValid, Valid}
use Rattle.rfc3550.specs.Read.{least, kind_for, stated, read_chunk}
use Rattle.rfc3550.specs.Compound.{read_packet}
use Rattle.rfc3550.specs.Walk.{step, SdesWalk, sdes_step}
use Rattle.rfc3550.proofs.Answers.{need_inv, bind_elim, ok_injective}
use Rattle.rfc3550.proofs.Bytes.{length_be, length_put, sum_replicate, bytes_take, bytes_drop}
use Rattle.rfc3550.proofs.Blocks.{length_blocks_bytes}
use Rattle.rfc3550.proofs.Chunks.{chunk_sound}
use Rattle.rfc3550.proofs.Packets.{packet_sound}

pub at_place : (pre x rest : List ℕ) (at len : ℕ) {s : List ℕ} → pre ++ (x ++ rest) ≡ s → length pre ≡ at → length x ≡ len → take len (drop at s) ≡ x
at_place pre x rest at len e n m = ap (λ (s : List ℕ). take len (drop at s)) (sym e) ∙ rw (drop_at pre (x ++ rest) at n) (take_at x rest len m)

-- ---- the bytes between the header and the padding, and a part of them

abbrev header : Packet → List ℕ
header p = (128 + padding_bit p.padding + low_bits p.content) ∷ type p.content ∷ be 2 ((length (content_bytes p.content) + length p.padding) / 4)

header_length : (p : Packet) → length (header p) ≡ 4
header_length p = rw length_be

module _ (p : Packet) {s : List ℕ} (e : layout p ≡ s) where
  pub part_at : (pre x rest : List ℕ) (at len : ℕ) → pre ++ (x ++ rest) ≡ content_bytes p.content → 4 + length pre ≡ at → length x ≡ len → take len (drop at s) ≡ x
  unfolding layout
  part_at pre x rest at len q n m =
      at_place (header p ++ pre) x (rest ++ p.padding) at len
      (append_assoc (header p) pre (x ++ (rest ++ p.padding)) ∙ ap (λ (l : List ℕ). header p ++ l) (sym (append_assoc pre x (rest ++ p.padding)) ∙ sym (append_assoc (pre ++ x) rest p.padding) ∙ ap (λ (l : List ℕ). l ++ p.padding) (append_assoc pre x rest ∙ q)) ∙ e)
      (rw (length-append (header p) pre, header_length p) n) m

  pub padding_at : (at len : ℕ) → 4 + length (content_bytes p.content) ≡ at → length p.padding ≡ len → take len (drop at s) ≡ p.padding
  unfolding layout
  padding_at at len n m =
      at_place (header p ++ content_bytes p.content) p.padding [] at len
      (rw (append-nil p.padding) (append_assoc (header p) (content_bytes p.content) p.padding ∙ e))
      (rw (length-append (header p) (content_bytes p.content), header_length p) n) m

-- ---- each kind's parts, and where its padding starts

length_reporter : (r : Reporter) (bs : List Block) (x : List ℕ) → Fits (reporter_widths r) (reporter_fields r) → 4 + length (put (reporter_widths r) (reporter_fields r)) ≡ least (kind_for (report r bs x))
unfolding sum
length_reporter (receiver s) bs x h = rw (length_put (reporter_widths (receiver s)) (reporter_fields (receiver s)) h)
length_reporter (sender s n r p o) bs x h = rw (length_put (reporter_widths (sender s n r p o)) (reporter_fields (sender s n r p o)) h)

length_sources : (ss : List ℕ) → Fits (replicate (length ss) 4) ss → length (put (replicate (length ss) 4) ss) ≡ 4 * length ss
length_sources ss h = length_put (replicate (length ss) 4) ss h ∙ sum_replicate (length ss) 4

module _ (r : Reporter) (bs : List Block) (x : List ℕ) (v : ContentValid (report r bs x)) where
  report_end : 4 + (length (put (reporter_widths r) (reporter_fields r)) + length (blocks_bytes bs)) ≡ least (kind_for (report r bs x)) + 24 * length bs
  report_end = omega (arith, length_reporter r bs x v.0, length_blocks_bytes bs v.1)

  pub report_body_lem : 4 + length (content_bytes (report r bs x)) ≡ least (kind_for (report r bs x)) + 24 * length bs + length x
  unfolding content_bytes
  report_body_lem = rw (length-append, length-append) (omega (arith, report_end))

  pub extension_at_lem : (padding : List ℕ) {s : List ℕ} → layout (record { content = report r bs x; padding = padding }) ≡ s
      → take (length x) (drop (least (kind_for (report r bs x)) + 24 * length bs) s) ≡ x
  unfolding content_bytes
  extension_at_lem padding e =
      part_at (record { content = report r bs x; padding = padding }) e (put (reporter_widths r) (reporter_fields r) ++ blocks_bytes bs) x [] (least (kind_for (report r bs x)) + 24 * length bs) (length x)
      (rw (append-nil x) (append_assoc (put (reporter_widths r) (reporter_fields r)) (blocks_bytes bs) x)) (rw (length-append (put (reporter_widths r) (reporter_fields r)) (blocks_bytes bs)) report_end) refl

module _ (ss r tail : List ℕ) (v : ContentValid (bye ss (reason r tail))) where
  sources_end : length (put (replicate (length ss) 4) ss ++ (length r ∷ [])) ≡ 4 * length ss + 1
  sources_end = rw (length-append, length_sources ss v.0)

  pub leaving_body : 4 + length (content_bytes (bye ss (reason r tail))) ≡ 4 + 4 * length ss + 1 + length r + length tail
  unfolding content_bytes
  leaving_body = simp length-append (omega (arith, length_sources ss v.0))

  module _ (padding : List ℕ) {s : List ℕ} (e : layout (record { content = bye ss (reason r tail); padding = padding }) ≡ s) where
    pub reason_at_lem : take (length r) (drop (4 + 4 * length ss + 1) s) ≡ r
    unfolding content_bytes
    reason_at_lem =
        part_at (record { content = bye ss (reason r tail); padding = padding }) e (put (replicate (length ss) 4) ss ++ (length r ∷ [])) r tail (4 + 4 * length ss + 1) (length r)
        (append_assoc (put (replicate (length ss) 4) ss) (length r ∷ []) (r ++ tail)) (rw sources_end (omega arith)) refl

    pub tail_at : take (length tail) (drop (4 + 4 * length ss + 1 + length r) s) ≡ tail
    unfolding content_bytes
    tail_at =
        part_at (record { content = bye ss (reason r tail); padding = padding }) e (put (replicate (length ss) 4) ss ++ (length r ∷ r)) tail [] (4 + 4 * length ss + 1 + length r) (length tail)
        (rw (append-nil tail) (append_assoc (put (replicate (length ss) 4) ss) (length r ∷ r) tail)) (rw (length-append, length_sources ss v.0) (omega arith)) refl

pub silent_body : (ss : List ℕ) → ContentValid (bye ss no_reason) → 4 + length (content_bytes (bye ss no_reason)) ≡ 4 + 4 * length ss
unfolding content_bytes
silent_body ss v = rw (append-nil, length_sources ss v.0)

module _ (subtype ssrc : ℕ) (name d : List ℕ) (v : ContentValid (app subtype ssrc name d)) where
  pub app_body : 4 + length (content_bytes (app subtype ssrc name d)) ≡ 12 + length d
  unfolding content_bytes
  app_body = simp (length-append, length_be) (omega (arith, v.1))

  module _ (padding : List ℕ) {s : List ℕ} (e : layout (record { content = app subtype ssrc name d; padding = padding }) ≡ s) where
    pub name_at : take 4 (drop 8 s) ≡ name
    unfolding content_bytes
    name_at = part_at (record { content = app subtype ssrc name d; padding = padding }) e (be 4 ssrc) name d 8 4 refl (rw length_be) v.1

    pub data_at : take (length d) (drop 12 s) ≡ d
    unfolding content_bytes
    data_at =
        part_at (record { content = app subtype ssrc name d; padding = padding }) e (be 4 ssrc ++ name) d [] 12 (length d)
        (rw (append-nil d) (append_assoc (be 4 ssrc) name d)) (simp (length-append, length_be) (omega (arith, v.1))) refl

pub body_at : (t low : ℕ) (b padding : List ℕ) {s : List ℕ} → layout (record { content = unknown t low b; padding = padding }) ≡ s → take (length b) (drop 4 s) ≡ b
unfolding content_bytes
body_at t low b padding e = part_at (record { content = unknown t low b; padding = padding }) e [] b [] 4 (length b) (append-nil b) refl refl

-- ---- an item that stands at `at`: its value, and of PRIV the prefix

module _ (pre : List ℕ) (at : ℕ) (n : length pre ≡ at) (v rest : List ℕ) {s : List ℕ} where
  pub value_at : (t : ℕ) → pre ++ (item_bytes (item t v) ++ rest) ≡ s → take (length v) (drop (at + 2) s) ≡ v
  value_at t e = at_place (pre ++ (t ∷ length v ∷ [])) v rest (at + 2) (length v) (append_assoc pre (t ∷ length v ∷ []) (v ++ rest) ∙ e) (rw (length-append pre, n)) refl

  pub prefix_at : (p : List ℕ) → pre ++ (item_bytes (priv p v) ++ rest) ≡ s → take (length p) (drop (at + 3) s) ≡ p
  prefix_at p e =
      at_place (pre ++ (8 ∷ length (item_rest (priv p v)) ∷ length p ∷ [])) p (v ++ rest) (at + 3) (length p)
      (append_assoc pre (8 ∷ length (item_rest (priv p v)) ∷ length p ∷ []) (p ++ (v ++ rest)) ∙ rw (sym (append_assoc p v rest)) e) (rw (length-append pre, n)) refl

  pub priv_value_at : (p : List ℕ) → pre ++ (item_bytes (priv p v) ++ rest) ≡ s → take (length v) (drop (at + 3 + length p) s) ≡ v
  priv_value_at p e =
      at_place (pre ++ (8 ∷ length (item_rest (priv p v)) ∷ length p ∷ p)) v rest (at + 3 + length p) (length v)
      (append_assoc pre (8 ∷ length (item_rest (priv p v)) ∷ length p ∷ p) (v ++ rest) ∙ rw (sym (append_assoc p v rest)) e) (rw (length-append pre, n) (omega arith)) refl

-- ---- what a step of a walk gave is valid, and stands between its place and the next

pub packet_at_lem : (s : List ℕ) (at : ℕ) → Bytes s → (x : Packet × ℕ) → step s at ≡ ok x → Valid x.0 × (take (x.1 - at) (drop at s) ≡ layout x.0)
unfolding step read_packet
packet_at_lem s at h x e =
    let a = need_inv _ _ _ _ _ e in
    bind_elim (read_packet (eqb at 0) (drop at s)) _ a.1 (λ p r e₁.
    let b = need_inv _ _ _ _ _ r in
    let c = need_inv _ _ _ _ _ b.1 in
    let d = need_inv _ _ _ _ _ c.1 in
    let f = need_inv _ _ _ _ _ d.1 in
    let g = need_inv _ _ _ _ _ f.1 in
    let n : at + stated (drop at s) - at ≡ stated (drop at s) = omega arith in
    let z = packet_sound _ (take (stated (drop at s)) (drop at s)) p (bytes_take (stated (drop at s)) (drop at s) (bytes_drop at s h)) g.1 in
    subst (λ (x : Packet × ℕ). Valid x.0 × (take (x.1 - at) (drop at s) ≡ layout x.0)) (ok_injective e₁) (z.0, rw n (sym z.2)))

pub chunk_at_lem : (s : List ℕ) (w : SdesWalk) → Bytes s → (x : Chunk × SdesWalk) → sdes_step s w ≡ ok x → ChunkValid x.0 × (take (length (chunk_bytes x.0)) (drop w.at (take 262144 s)) ≡ chunk_bytes x.0)
unfolding sdes_step
chunk_at_lem s w h x e =
    let a = need_inv _ _ _ _ _ e in
    let b = need_inv _ _ _ _ _ a.1 in
    bind_elim (read_chunk (drop w.at (take 262144 s))) _ b.1 (λ y q e₁.
    let z : y.0 ≡ x.0 = ap (λ (x : Chunk × SdesWalk). x.0) (ok_injective e₁) in
    let g = chunk_sound (drop w.at (take 262144 s)) (bytes_drop w.at (take 262144 s) (bytes_take 262144 s h)) q in
    subst (λ (c : Chunk). ChunkValid c × (take (length (chunk_bytes c)) (drop w.at (take 262144 s)) ≡ chunk_bytes c)) z
    (g.valid, ap (take (length (chunk_bytes y.0))) (sym g.bytes) ∙ take_at (chunk_bytes y.0) y.1 (length (chunk_bytes y.0)) refl))
