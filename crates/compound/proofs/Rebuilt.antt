-- What a step hands over, with what the accessors give, is the whole packet.
use Rattle.std.specs.Prelude.{Result, Ok}
use Rattle.rfc3550.proofs.Prelude.{◌≡◌, refl, sym, ap, ◌∙◌, subst, List, [], ◌∷◌, ℕ, zero, suc, ◌+◌, ◌-◌, ◌≤◌, arith, length, take, drop, length-append, eqb}
use Rattle.rfc3550.specs.Answer.{Answer, ok, refused, ◌>>=◌, map_ok}
use Rattle.rfc3550.specs.Bytes.{Bytes}
use Rattle.rfc3550.specs.Packet.{Block, Item, items_bytes, Chunk, chunk_bytes, no_reason, reason, Content, report, receiver, sender, sdes, bye, app, unknown, Packet as Read}
use Rattle.rfc3550.specs.Packet.{chunks_of}
use Rattle.rfc3550.specs.Read.{Kind, SR, RR, SDES, BYE, kind_for, stated, nth, blocks_of, sources_of, read_as, read_block_at, read_source_at, read_chunk}
use Rattle.rfc3550.specs.Compound.{read_packet, read_compound}
use Rattle.rfc3550.specs.Walk.{SdesWalk, sdes_step, item_step, step, gave, walked}
use Rattle.rfc3550.proofs.Answers.{need_inv, bind_elim, ok_injective, map_ok_inv}
use Rattle.rfc3550.proofs.Bytes.{bytes_take, bytes_drop}
use Rattle.rfc3550.proofs.Packets.{read_as_kind}
use Rattle.rfc3550.proofs.Walks.{walk_gives, sdes_walk_gives, item_walk_gives}
use Rattle.utils.specs.Error.{parsed_of}
use Rattle.utils.specs.Parts.{part_in}
use Rattle.utils.specs.declared.error.RtcpParseError.{RtcpParseError}
use Rattle.report.specs.Block.{block_view}
use Rattle.report.proofs.Reports.{receiver_extension, receiver_padding, sender_extension, sender_padding}
use Rattle.sdes_chunk.specs.Item.{item_view}
use Rattle.sdes_chunk.specs.Chunk.{chunk_view}
use Rattle.sdes_chunk.specs.Returned.{item_from}
use Rattle.sdes_chunk.proofs.Readings.{chunk_in}
use Rattle.sdes_chunk.proofs.Returned.{item_step_from}
use Rattle.bye.proofs.Byes as byes
use Rattle.app.proofs.Apps as apps
use Rattle.compound.proofs.Unknowns.{body_part, padding_part}
use Rattle.compound.specs.Packet.{view_as, packet_view}
use Rattle.compound.specs.Compound.{step_view}
use Rattle.compound.specs.Rebuilt.{listed, block_from, block_at, item_at, rebuilt_chunk, chunk_at, rebuilt, packet_at}
use Rattle.compound.specs.declared.packet.Packet.{Packet}
use Rattle.compound.specs.declared.compound.Walk.{Walk}

-- ---- a run of elements

listed_nth : {A : Type 0} (n : ℕ) (xs : List A) (f : ℕ → Answer A) → length xs ≤ n → ((i : ℕ) → f i ≡ nth i xs) → listed n f ≡ xs
unfolding listed
listed_nth zero [] f l h = refl
listed_nth zero (x ∷ xs) f l h = absurd (omega arith)
listed_nth (suc n) [] f l h = rw (h 0) (listed_nth n [] (λ (i : ℕ). f (suc i)) (omega arith) (λ i. h (suc i)))
listed_nth (suc n) (x ∷ xs) f l h = rw (h 0) (ap (λ (xs : List _). x ∷ xs) (listed_nth n xs (λ (i : ℕ). f (suc i)) (omega arith) (λ i. h (suc i))))

listed_all : {A : Type 0} (xs : List A) (f : ℕ → Answer A) → ((i : ℕ) → f i ≡ nth i xs) → listed (length xs) f ≡ xs
listed_all xs f h = listed_nth (length xs) xs f (omega arith) h

-- ---- blocks and sources

from_view : (a : Answer Block) → map_ok block_from (map_ok block_view a) ≡ a
unfolding map_ok
from_view (ok b) = refl
from_view (refused r) = refl

block_is_lem : (k : Kind) (s : List ℕ) (p : Read) → read_as k s ≡ ok p → (i : ℕ) → block_at k s i ≡ nth i (blocks_of p.content)
unfolding read_block_at ◌>>=◌
block_is_lem k s p e i = from_view (read_block_at k s i) ∙ rw e

source_is : (s : List ℕ) (p : Read) → read_as BYE s ≡ ok p → (i : ℕ) → read_source_at s i ≡ nth i (sources_of p.content)
unfolding read_source_at ◌>>=◌
source_is s p e i = rw e

-- ---- items

item_step_lem : (s : List ℕ) (at : ℕ) (m : Answer (Item × ℕ)) → item_step s at ≡ m → (m >>= λ (x : Item × ℕ). ok (item_from s at (item_view x.0))) ≡ gave m
unfolding ◌>>=◌
item_step_lem s at (refused r) e = refl
item_step_lem s at (ok y) e = ap ok (item_step_from s at y e)

few_items : (is : List Item) → length is ≤ length (items_bytes is)
unfolding items_bytes
few_items [] = omega arith
few_items (i ∷ is) = rw length-append (omega (arith, few_items is))

few_in : (c : Chunk) → length c.items ≤ length (chunk_bytes c)
unfolding chunk_bytes
few_in c = rw (length-append, length-append) (omega (arith, few_items c.items))

items_are : (s : List ℕ) (x : Chunk × List ℕ) → Bytes s → read_chunk s ≡ ok x → rebuilt_chunk s (chunk_view x.0) ≡ x.0
unfolding ◌>>=◌
items_are s x h e =
    let g = item_walk_gives s x h e in
    let n : length x.0.items ≤ length s = omega (arith, few_in x.0, (chunk_in s e).size) in
    ap (λ (is : List Item). record { ssrc = x.0.ssrc; items = is })
    (listed_nth (length s) x.0.items (item_at s) n (λ i. rw g.0 (item_step_lem s (walked (item_step s) 4 i) (item_step s (walked (item_step s) 4 i)) refl ∙ g.1 i)))

-- ---- chunks

chunk_step : (s : List ℕ) (w : SdesWalk) → Bytes s → (m : Answer (Chunk × SdesWalk)) → sdes_step s w ≡ m
    → (m >>= λ (x : Chunk × SdesWalk). ok (rebuilt_chunk (drop w.at (take 262144 s)) (chunk_view x.0))) ≡ gave m
unfolding sdes_step ◌>>=◌
chunk_step s w h (refused r) e = refl
chunk_step s w h (ok y) e =
    let a = need_inv _ _ _ _ _ e in
    let b = need_inv _ _ _ _ _ a.1 in
    bind_elim (read_chunk (drop w.at (take 262144 s))) _ b.1 (λ x q e₁.
    let z : x.0 ≡ y.0 = ap (λ (y : Chunk × SdesWalk). y.0) (ok_injective e₁) in
    ap ok (subst (λ (c : Chunk). rebuilt_chunk (drop w.at (take 262144 s)) (chunk_view c) ≡ c) z
    (items_are (drop w.at (take 262144 s)) x (bytes_drop w.at (take 262144 s) (bytes_take 262144 s h)) q)))

chunk_is_lem : (s : List ℕ) (p : Read) → Bytes s → read_as SDES s ≡ ok p → (i : ℕ) → chunk_at s i ≡ nth i (chunks_of p.content)
unfolding ◌>>=◌
chunk_is_lem s p h e i =
    let g = sdes_walk_gives s p h e in
    rw g.1 (chunk_step s (walked (sdes_step s) g.0 i) h (sdes_step s (walked (sdes_step s) g.0 i)) refl ∙ g.2 i)

-- ---- a packet of every kind

module _ (s : List ℕ) (h : Bytes s) where
  by_content : (c : Content) (padding : List ℕ) → read_as (kind_for c) s ≡ ok (record { content = c; padding = padding })
      → rebuilt s (view_as (kind_for c) (record { content = c; padding = padding })) ≡ record { content = c; padding = padding }
  unfolding part_in
  by_content (report (sender ssrc ntp rtp n o) bs x) padding e = rw (listed_all bs (block_at SR s) (block_is_lem SR s _ e), sender_extension s _ e, sender_padding s _ e)
  by_content (report (receiver ssrc) bs x) padding e = rw (listed_all bs (block_at RR s) (block_is_lem RR s _ e), receiver_extension s _ e, receiver_padding s _ e)
  by_content (sdes cs) padding e = rw (e, listed_all cs (chunk_at s) (chunk_is_lem s _ h e))
  by_content (bye ss no_reason) padding e = let p = byes.parts s _ e in rw (listed_all ss (read_source_at s) (source_is s _ e), p.padding)
  by_content (bye ss (reason r tail)) padding e = let p = byes.parts s _ e in rw (listed_all ss (read_source_at s) (source_is s _ e), p.because, p.tail, p.padding)
  by_content (app subtype ssrc name d) padding e = let p = apps.parts s _ e in rw (p.name, p.payload, p.padding)
  by_content (unknown t low b) padding e = rw (body_part s _ e, padding_part s _ e)

  pub rebuilt_is : (k : Kind) (p : Read) → read_as k s ≡ ok p → rebuilt s (packet_view p) ≡ p
  rebuilt_is k p e = by_content p.content p.padding (subst (λ (k : Kind). read_as k s ≡ ok p) (sym (read_as_kind k s e)) e)

-- ---- a step of the walk

pub step_is : (s : List ℕ) (at : ℕ) → Bytes s → (x : Read × ℕ) → step s at ≡ ok x → rebuilt (take (x.1 - at) (drop at s)) (packet_view x.0) ≡ x.0
unfolding step read_packet
step_is s at h x e =
    let a = need_inv _ _ _ _ _ e in
    bind_elim (read_packet (eqb at 0) (drop at s)) _ a.1 (λ p r e₁.
    let b = need_inv _ _ _ _ _ r in
    let c = need_inv _ _ _ _ _ b.1 in
    let d = need_inv _ _ _ _ _ c.1 in
    let f = need_inv _ _ _ _ _ d.1 in
    let g = need_inv _ _ _ _ _ f.1 in
    let n : at + stated (drop at s) - at ≡ stated (drop at s) = omega arith in
    subst (λ (x : Read × ℕ). rebuilt (take (x.1 - at) (drop at s)) (packet_view x.0) ≡ x.0) (ok_injective e₁)
    (rw n (rebuilt_is (take (stated (drop at s)) (drop at s)) (bytes_take (stated (drop at s)) (drop at s) (bytes_drop at s h)) _ p g.1)))

-- the answer of a step, and what the accessors give of the bytes between the two places, tell what the step gave
pub step_rebuilt : (s : List ℕ) (at : ℕ) → Bytes s → (o : Result (Packet × Walk) RtcpParseError) (p : Packet) (w : Walk) → parsed_of o ≡ map_ok step_view (step s at) → o ≡ Ok (p, w)
    → step s at ≡ ok (rebuilt (take (w.at - at) (drop at s)) p, w.at)
step_rebuilt s at h o p w g q = let m = map_ok_inv step_view (step s at) (sym g ∙ ap parsed_of q) in go m.0 m.1 m.2
  where
    go : (x : Read × ℕ) → step s at ≡ ok x → step_view x ≡ (p, w) → step s at ≡ ok (rebuilt (take (w.at - at) (drop at s)) p, w.at)
    go x e r =
        e ∙ ap ok (sym (ap (λ (q : Read). (q, x.1)) (step_is s at h x e))) ∙ ap (λ (y : Packet × Walk). ok (rebuilt (take (y.1.at - at) (drop at s)) y.0, y.1.at)) r

packet_step : (s : List ℕ) (at : ℕ) → Bytes s → (m : Answer (Read × ℕ)) → step s at ≡ m
    → (m >>= λ (x : Read × ℕ). ok (rebuilt (take (x.1 - at) (drop at s)) (packet_view x.0))) ≡ gave m
unfolding ◌>>=◌
packet_step s at h (refused r) e = refl
packet_step s at h (ok x) e = ap ok (step_is s at h x e)

-- from a walk just opened, step i hands over packet i, and 25 once all are given
pub walk_rebuilt : (s : List ℕ) (ps : List Read) → Bytes s → read_compound s ≡ ok ps → (i : ℕ) → packet_at s i ≡ nth i ps
unfolding ◌>>=◌
walk_rebuilt s ps h e i =
    let g = walk_gives s ps h e in
    rw g.0 (packet_step s (walked (step s) 0 i) h (step s (walked (step s) 0 i)) refl ∙ g.1 i)
