-- The numbers that C gets of a packet of any kind, and its bytes: at each place stands the part.
use Rattle.rfc3550.proofs.Prelude.{ℕ, ◌+◌, ◌-◌, ◌*◌, ◌<◌, Bool, true, false, ◌≡◌, refl, sym, ap, ◌∙◌, subst, List, [], ◌∷◌, ◌++◌, append_assoc, arith, ne_eqb, length, take, drop, replicate, length-append, drop_at}
use Rattle.rfc3550.specs.Packet.{Item, item_type, item_rest, item_bytes, items_bytes, is_cname, fill, Chunk, chunk_bytes, All, ItemValid, ChunkValid, receiver, sender, no_reason, reason, Content, report, sdes, bye, app, unknown, Packet as Read, content_bytes, layout, ContentValid, Valid}
use Rattle.rfc3550.specs.Read.{Kind, least, kind_for, read_item, read_as}
use Rattle.rfc3550.proofs.Places.{padding_at, report_body_lem, extension_at_lem, leaving_body, reason_at_lem, tail_at, silent_body, app_body, name_at, data_at, body_at}
use Rattle.rfc3550.specs.Answer.{Answer, ok, refuse, map_ok, pick}
use Rattle.rfc3550.specs.Bytes.{Bytes, be}
use Rattle.rfc3550.proofs.Bytes.{length_be}
use Rattle.rfc3550.proofs.Chunks.{item_complete}
use Rattle.rfc3550.proofs.Packets.{packet_sound}
use Rattle.sdes_chunk.specs.Chunk.{cname_place}
use Rattle.compound.specs.Packet.{view_as, packet_view}
use Rattle.rtcp.specs.Compound.{numbers_of}
use Rattle.rtcp.specs.Places.{Places, first_cname, item_at}

more : (a b : ℕ) → a + b - a ≡ b
more a b = omega arith

unknown_body : (t low : ℕ) (b : List ℕ) → 4 + length (content_bytes (unknown t low b)) ≡ 4 + length b
unfolding content_bytes
unknown_body t low b = refl

by_content : (c : Content) (padding : List ℕ) {s : List ℕ} → ContentValid c → layout (record { content = c; padding = padding }) ≡ s
    → Places s (record { content = c; padding = padding }) (numbers_of (packet_view (record { content = c; padding = padding })))
by_content (report (sender ssrc ntp rtp n o) bs x) padding {s} v e =
    let c : Content = report (sender ssrc ntp rtp n o) bs x in
    record {
      parts = ap (λ (k : ℕ). take k (drop (least (kind_for c) + 24 * length bs) s)) (more (least (kind_for c) + 24 * length bs) (length x)) ∙ extension_at_lem (sender ssrc ntp rtp n o) bs x v padding e;
      padding = padding_at (record { content = c; padding = padding }) e _ _ (report_body_lem (sender ssrc ntp rtp n o) bs x v) refl;
    }
by_content (report (receiver ssrc) bs x) padding {s} v e =
    let c : Content = report (receiver ssrc) bs x in
    record {
      parts = ap (λ (k : ℕ). take k (drop (least (kind_for c) + 24 * length bs) s)) (more (least (kind_for c) + 24 * length bs) (length x)) ∙ extension_at_lem (receiver ssrc) bs x v padding e;
      padding = padding_at (record { content = c; padding = padding }) e _ _ (report_body_lem (receiver ssrc) bs x v) refl;
    }
by_content (sdes cs) padding v e = record { parts = tt; padding = padding_at (record { content = sdes cs; padding = padding }) e _ _ refl refl }
by_content (bye ss no_reason) padding {s} v e =
    let a : ℕ = 4 + 4 * length ss + 0 in
    let m : a + 0 + 0 - (a + 0) ≡ 0 = omega arith in
    let q : 4 + length (content_bytes (bye ss no_reason)) ≡ a + 0 + 0 = omega (arith, silent_body ss v) in
    record { parts = (refl, ap (λ (k : ℕ). take k (drop (a + 0) s)) m); padding = padding_at (record { content = bye ss no_reason; padding = padding }) e _ _ q refl }
by_content (bye ss (reason r tail)) padding {s} v e =
    record {
      parts = (
        reason_at_lem ss r tail v padding e,
        ap (λ (k : ℕ). take k (drop (4 + 4 * length ss + 1 + length r) s)) (more (4 + 4 * length ss + 1 + length r) (length tail)) ∙ tail_at ss r tail v padding e,
      );
      padding = padding_at (record { content = bye ss (reason r tail); padding = padding }) e _ _ (leaving_body ss r tail v) refl;
    }
by_content (app subtype ssrc name d) padding {s} v e =
    record {
      parts = (name_at subtype ssrc name d v padding e, ap (λ (k : ℕ). take k (drop 12 s)) (more 12 (length d)) ∙ data_at subtype ssrc name d v padding e);
      padding = padding_at (record { content = app subtype ssrc name d; padding = padding }) e _ _ (app_body subtype ssrc name d v) refl;
    }
by_content (unknown t low b) padding {s} v e =
    record { parts = ap (λ (k : ℕ). take k (drop 4 s)) (more 4 (length b)) ∙ body_at t low b padding e; padding = padding_at (record { content = unknown t low b; padding = padding }) e _ _ (unknown_body t low b) refl }

-- of a packet that a walk's step gave (`packets_returned`)
pub places : (p : Read) {s : List ℕ} → Valid p → layout p ≡ s → Places s p (numbers_of (packet_view p))
places p v e = by_content p.content p.padding v.content e

-- of one packet that was read: a result of its own has the same numbers
pub read_places : (k : Kind) (s : List ℕ) (p : Read) → Bytes s → read_as k s ≡ ok p → Places s p (numbers_of (view_as k p))
read_places k s p h e = let g = packet_sound k s p h e in subst (λ (k : Kind). Places s p (numbers_of (view_as k p))) g.1 (places p g.0 g.2)

-- ---- the place of a chunk's first CNAME

item_here : (s pre r : List ℕ) (at : ℕ) (i : Item) → 0 < at → length pre ≡ at → pre ++ (item_bytes i ++ r) ≡ s → ItemValid i → item_at s at ≡ ok i
unfolding map_ok
item_here s pre r at i z n e v =
    ap (λ (t : Bool). pick {A = Answer Item} t (refuse 25 0 0) (map_ok (λ (x : Item × List ℕ). x.0) (read_item (drop at s)))) (ne_eqb at 0 (λ q. omega arith))
    ∙ ap (λ (l : List ℕ). map_ok (λ (x : Item × List ℕ). x.0) (read_item l)) (ap (drop at) (sym e) ∙ drop_at pre (item_bytes i ++ r) at n)
    ∙ ap (map_ok (λ (x : Item × List ℕ). x.0)) (item_complete i r v)

first : (s : List ℕ) (t : Bool) (at more : ℕ) (i : Item) (is : List Item) → item_at s at ≡ ok i → item_at s more ≡ first_cname is → item_at s (pick t at more) ≡ pick t (ok i) (first_cname is)
first s true at more i is a b = a
first s false at more i is a b = b

cname_from : (s pre rest : List ℕ) (at : ℕ) (is : List Item) → 0 < at → length pre ≡ at → pre ++ (items_bytes is ++ rest) ≡ s → All ItemValid is → item_at s (cname_place at is) ≡ first_cname is
unfolding cname_place items_bytes
cname_from s pre rest at [] z n e v = refl
cname_from s pre rest at (i ∷ is) z n e v =
    let b : pre ++ (item_bytes i ++ (items_bytes is ++ rest)) ≡ s = ap (λ (l : List ℕ). pre ++ l) (sym (append_assoc (item_bytes i) (items_bytes is) rest)) ∙ e in
    first s (is_cname (item_type i) (length (item_rest i))) at (cname_place (at + length (item_bytes i)) is) i is (item_here s pre (items_bytes is ++ rest) at i z n b v.0)
    (cname_from s (pre ++ item_bytes i) rest (at + length (item_bytes i)) is (omega arith) (length-append pre (item_bytes i) ∙ ap (λ (k : ℕ). k + length (item_bytes i)) n)
    (append_assoc pre (item_bytes i) (items_bytes is ++ rest) ∙ b) v.1)

-- from a chunk's start on, the item at the place that is handed over is the chunk's first CNAME
pub cname_at : (c : Chunk) (r : List ℕ) → ChunkValid c → item_at (chunk_bytes c ++ r) (cname_place 4 c.items) ≡ first_cname c.items
unfolding chunk_bytes
cname_at c r v =
    let zeros : List ℕ = replicate (fill (4 + length (items_bytes c.items))) 0 in
    cname_from (chunk_bytes c ++ r) (be 4 c.ssrc) (zeros ++ r) 4 c.items (omega arith) (length_be 4 c.ssrc)
    (ap (λ (l : List ℕ). be 4 c.ssrc ++ l) (sym (append_assoc (items_bytes c.items) zeros r)) ∙ sym (append_assoc (be 4 c.ssrc) (items_bytes c.items ++ zeros) r)) v.1
