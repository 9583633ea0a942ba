-- Demand 3 over what the C functions returned: walks from a walk just opened, and the writer's calls from a new writer.
use Rattle.rfc3550.proofs.Prelude.{ℕ, suc, ◌+◌, ◌-◌, ◌<◌, ◌≡◌, refl, sym, ap, ◌∙◌, subst, List, [], ◌++◌, map, arith, ne_eqb, ltb-true, length, take, drop, length-append, take-append-drop, length-take-le, eqb}
use Rattle.rfc3550.specs.Answer.{Refusal, refusal, Answer, ok, refused, map_ok}
use Rattle.rfc3550.specs.Bytes.{Bytes}
use Rattle.rfc3550.specs.Packet.{Item, item, priv, item_type, item_bytes, Chunk, chunk_bytes, chunks_of, Packet as Read}
use Rattle.rfc3550.specs.Read.{SDES, nth, read_item, read_chunk, read_as}
use Rattle.rfc3550.specs.Compound.{read_compound}
use Rattle.rfc3550.specs.Walk.{open_walk, step, SdesWalk, open_sdes, sdes_step, open_items, item_step, gave, walk_after, walked}
use Rattle.rfc3550.specs.Writer.{Writer, fresh, Request, call}
use Rattle.rfc3550.specs.Book.{empty}
use Rattle.rfc3550.specs.Calls.{answers, book_input, booked, compounds}
use Rattle.rfc3550.specs.Returned.{Ran, shown_of, firsts, Called, events}
use Rattle.rfc3550.proofs.Answers.{need_inv, bind_elim, ok_injective}
use Rattle.rfc3550.proofs.Places.{value_at, prefix_at, priv_value_at, packet_at_lem, chunk_at_lem}
use Rattle.rfc3550.proofs.Returned.{runs}
use Rattle.rfc3550.proofs.Returned as rfc
use Rattle.rfc3550.proofs.Claims.{refused_call, walking, walking_chunks, walking_items}
use Rattle.sdes_chunk.specs.Item.{item_view}
use Rattle.sdes_chunk.specs.Chunk.{cname_place}
use Rattle.sdes_chunk.specs.Walk.{item_walk, item_stepped}
use Rattle.sdes_chunk.proofs.Readings.{is_priv, item_in}
use Rattle.sdes.specs.Walk.{chunk_walk, chunk_stepped}
use Rattle.sdes.proofs.Returned.{short}
use Rattle.compound.specs.Packet.{packet_view}
use Rattle.compound.specs.Compound.{walk_at, step_view}
use Rattle.rtcp.specs.Sdes.{chunk_walk_result, chunk_step_result, item_walk_result, item_step_result}
use Rattle.rtcp.specs.Compound.{numbers_of, walk_result, step_result}
use Rattle.rtcp.specs.WriteCompound.{writer_in, writer_out, state_after, call_result, call_with_buffer}
use Rattle.rtcp.specs.Returned.{packet_steps, packet_shown, packet_due, chunk_steps, chunk_shown, chunk_due, item_steps, item_shown, item_due, Result, added, rtcp_writer_close, answered, writers}
use Rattle.rtcp.specs.declared.read_compound.RtcpWalk.{RtcpWalk}
use Rattle.rtcp.specs.declared.read_compound.RtcpStep.{RtcpStep}
use Rattle.rtcp.specs.declared.read_sdes.RtcpChunkWalk.{RtcpChunkWalk}
use Rattle.rtcp.specs.declared.read_sdes.RtcpChunkStep.{RtcpChunkStep}
use Rattle.rtcp.specs.declared.read_sdes.RtcpItemWalk.{RtcpItemWalk}
use Rattle.rtcp.specs.declared.read_sdes.RtcpItemStep.{RtcpItemStep}
use Rattle.rtcp.specs.declared.write_compound.RtcpCall.{RtcpCall}
use Rattle.rtcp.proofs.Injective.{Nonzero}
use Rattle.rtcp.proofs.Nonzero.{call_nonzero, chunk_nonzero, read_nonzero, compound_nonzero, accepted, opened_number}
use Rattle.rtcp.proofs.WriteCalls.{writer_in_writer_out}

-- ---- a datagram

module _ (s : List ℕ) (h : Bytes s) where
  packet_shown_lem : (at : ℕ) (a : Answer (Read × ℕ)) → step s at ≡ a → packet_shown s at (step_result at (map_ok step_view a)) ≡ packet_due (gave a)
  unfolding map_ok
  packet_shown_lem at (ok x) e = ap (λ (b : List ℕ). ((0, 0, 0), numbers_of (packet_view x.0), b)) (packet_at_lem s at h x e).1
  packet_shown_lem at (refused r) e = refl

  packet_moved : (at : ℕ) (a : Answer (Read × ℕ)) → (step_result at (map_ok step_view a)).at ≡ walk_after at a
  unfolding map_ok
  packet_moved at (ok x) = refl
  packet_moved at (refused r) = refl

  -- number 0 says that the datagram is accepted
  pub packets_opened : (o : RtcpWalk) → o ≡ walk_result (map_ok walk_at (open_walk s)) → o.number ≡ 0 → (ps : List Read) × (read_compound s ≡ ok ps)
  unfolding open_walk
  packets_opened o q z =
      accepted (read_compound s) (compound_nonzero s) (sym (opened_number walk_at (λ (ps : List Read). 0) (read_compound s)) ∙ sym (ap (λ (o : RtcpWalk). o.number) q) ∙ z)

  -- from a walk that `rtcp_walk_open` returned on a datagram that is accepted
  pub packets_returned : (ps : List Read) → read_compound s ≡ ok ps → (o : RtcpWalk) → o ≡ walk_result (map_ok walk_at (open_walk s))
      → (o.number ≡ 0) × ((rs : List RtcpStep) → Ran (packet_steps s) rs o.at → shown_of (packet_steps s) (packet_shown s) rs o.at ≡ firsts (length rs) (λ (i : ℕ). packet_due (nth i ps)))
  unfolding map_ok
  packets_returned ps e o q =
      let g = walking s ps h e in
      let z : o ≡ walk_result (ok (walk_at 0)) = q ∙ ap (λ (a : Answer ℕ). walk_result (map_ok walk_at a)) g.0 in (
        ap (λ (o : RtcpWalk). o.number) z,
        runs (packet_steps s) (λ at. Unit {0}) (step s) (λ at. at) (packet_shown s) packet_due
            (record {
              shows = λ at r u m. ap (packet_shown s at) m ∙ packet_shown_lem at (step s at) refl;
              moves = λ at r u m. (tt, ap (λ (r : RtcpStep). r.at) m ∙ packet_moved at (step s at));
            }) o.at ps tt (λ i. ap (λ (n : ℕ). gave (step s (walked (step s) n i))) (ap (λ (o : RtcpWalk). o.at) z) ∙ g.1 i),
      )

-- ---- a packet's chunks

-- number 0 says that the packet is accepted
pub chunks_opened : (s : List ℕ) (o : RtcpChunkWalk) → o ≡ chunk_walk_result (map_ok chunk_walk (open_sdes s)) → o.number ≡ 0 → (p : Read) × (read_as SDES s ≡ ok p)
unfolding open_sdes
chunks_opened s o q z =
    accepted (read_as SDES s) (read_nonzero SDES s)
    (sym (opened_number chunk_walk (λ (p : Read). record { at = 4; end = length s - length p.padding }) (read_as SDES s)) ∙ sym (ap (λ (o : RtcpChunkWalk). o.number) q) ∙ z)

module _ (s : List ℕ) (h : Bytes s) (p : Read) (e : read_as SDES s ≡ ok p) where
  chunk_shown_lem : (w : SdesWalk) (a : Answer (Chunk × SdesWalk)) → sdes_step s w ≡ a → chunk_shown s w (chunk_step_result w.at w.end (map_ok chunk_stepped a)) ≡ chunk_due (gave a)
  unfolding map_ok
  chunk_shown_lem w (ok x) q =
      ap (λ (b : List ℕ). ((0, 0, 0), (x.0.ssrc, length (chunk_bytes x.0), cname_place 4 x.0.items), b))
      (ap (λ (l : List ℕ). take (length (chunk_bytes x.0)) (drop w.at l)) (sym (short s p h e)) ∙ (chunk_at_lem s w h x q).1)
  chunk_shown_lem w (refused r) q = refl

  chunk_moved : (w : SdesWalk) (a : Answer (Chunk × SdesWalk)) → record { at = (chunk_step_result w.at w.end (map_ok chunk_stepped a)).at; end = (chunk_step_result w.at w.end (map_ok chunk_stepped a)).end } ≡ walk_after w a
  unfolding map_ok
  chunk_moved w (ok x) = refl
  chunk_moved w (refused r) = refl

  -- from a walk that `rtcp_chunk_walk_open` returned
  pub chunks_returned : (o : RtcpChunkWalk) → o ≡ chunk_walk_result (map_ok chunk_walk (open_sdes s))
      → (o.number ≡ 0)
      × ((rs : List RtcpChunkStep) → Ran (chunk_steps s) rs (record { at = o.at; end = o.end })
      → shown_of (chunk_steps s) (chunk_shown s) rs (record { at = o.at; end = o.end }) ≡ firsts (length rs) (λ (i : ℕ). chunk_due (nth i (chunks_of p.content))))
  unfolding map_ok
  chunks_returned o q =
      let g = walking_chunks s p h e in
      let z : o ≡ chunk_walk_result (ok (chunk_walk g.0)) = q ∙ ap (λ (a : Answer SdesWalk). chunk_walk_result (map_ok chunk_walk a)) g.1 in (
        ap (λ (o : RtcpChunkWalk). o.number) z,
        runs (chunk_steps s) (λ w. Unit {0}) (sdes_step s) (λ w. w) (chunk_shown s) chunk_due
            (record {
              shows = λ w r u m. ap (chunk_shown s w) m ∙ chunk_shown_lem w (sdes_step s w) refl;
              moves = λ w r u m. (tt, ap (λ (r : RtcpChunkStep). record { at = r.at; end = r.end }) m ∙ chunk_moved w (sdes_step s w));
            }) (record { at = o.at; end = o.end }) (chunks_of p.content) tt
            (λ i. ap (λ (w : SdesWalk). gave (sdes_step s (walked (sdes_step s) w i))) (ap (λ (o : RtcpChunkWalk). record { at = o.at; end = o.end }) z) ∙ g.2 i),
      )

-- ---- a chunk's items

-- the places of an item that stands at `at`
item_fields : (s pre r : List ℕ) (at to : ℕ) (i : Item) → length pre ≡ at → pre ++ (item_bytes i ++ r) ≡ s → is_priv i ≡ eqb (item_type i) 8
    → item_shown s at (item_step_result at (ok (item_view i, item_walk to))) ≡ item_due (ok i)
item_fields s pre r at to (item t v) n e k =
    let a : at + (2 + 0) ≡ at + 2 = refl in
    let m : 2 + length v - 2 ≡ length v = omega arith in
    rw (sym k, m, value_at pre at n v r t e)
item_fields s pre r at to (priv p v) n e k =
    let a : at + (3 + length p) ≡ at + 3 + length p = omega arith in
    let m : 2 + suc (length (p ++ v)) - (3 + length p) ≡ length v = rw (length-append p v) (omega arith) in
    rw (a, m, prefix_at pre at n v r p e, priv_value_at pre at n v r p e)

module _ (s : List ℕ) (h : Bytes s) where
  item_shown_lem : (at : ℕ) (a : Answer (Item × ℕ)) → item_step s at ≡ a → item_shown s at (item_step_result at (map_ok item_stepped a)) ≡ item_due (gave a)
  unfolding map_ok item_step
  item_shown_lem at (refused r) e = refl
  item_shown_lem at (ok x) e =
      let a = need_inv _ _ _ _ _ e in
      let b = need_inv _ _ _ _ _ a.1 in
      let l : at < length s = ltb-true _ _ a.0 in
      bind_elim (read_item (drop at s)) _ b.1 (λ y q e₁.
      let z : y.0 ≡ x.0 = ap (λ (x : Item × ℕ). x.0) (ok_injective e₁) in
      let g = item_in (drop at s) q in
      subst (λ (i : Item). item_shown s at (item_step_result at (ok (item_view i, item_walk x.1))) ≡ item_due (ok i)) z
      (item_fields s (take at s) y.1 at x.1 y.0 (length-take-le at s (omega arith)) (ap (λ (l : List ℕ). take at s ++ l) g.bytes ∙ take-append-drop at s) g.kind))

  item_moved : (at : ℕ) (a : Answer (Item × ℕ)) → (item_step_result at (map_ok item_stepped a)).at ≡ walk_after at a
  unfolding map_ok
  item_moved at (ok x) = refl
  item_moved at (refused r) = refl

  -- number 0 says that the chunk is accepted
  pub items_opened : (o : RtcpItemWalk) → o ≡ item_walk_result (map_ok item_walk (open_items s)) → o.number ≡ 0 → (x : Chunk × List ℕ) × (read_chunk s ≡ ok x)
  unfolding open_items
  items_opened o q z =
      accepted (read_chunk s) (chunk_nonzero s) (sym (opened_number item_walk (λ (x : Chunk × List ℕ). 4) (read_chunk s)) ∙ sym (ap (λ (o : RtcpItemWalk). o.number) q) ∙ z)

  -- from a walk that `rtcp_item_walk_open` returned on a chunk that is accepted
  pub items_returned : (x : Chunk × List ℕ) → read_chunk s ≡ ok x → (o : RtcpItemWalk) → o ≡ item_walk_result (map_ok item_walk (open_items s))
      → (o.number ≡ 0) × ((rs : List RtcpItemStep) → Ran (item_steps s) rs o.at → shown_of (item_steps s) (item_shown s) rs o.at ≡ firsts (length rs) (λ (i : ℕ). item_due (nth i x.0.items)))
  unfolding map_ok
  items_returned x e o q =
      let g = walking_items s x h e in
      let z : o ≡ item_walk_result (ok (item_walk 4)) = q ∙ ap (λ (a : Answer ℕ). item_walk_result (map_ok item_walk a)) g.0 in (
        ap (λ (o : RtcpItemWalk). o.number) z,
        runs (item_steps s) (λ at. Unit {0}) (item_step s) (λ at. at) (item_shown s) item_due
            (record {
              shows = λ at r u m. ap (item_shown s at) m ∙ item_shown_lem at (item_step s at) refl;
              moves = λ at r u m. (tt, ap (λ (r : RtcpItemStep). r.at) m ∙ item_moved at (item_step s at));
            }) o.at x.0.items tt (λ i. ap (λ (n : ℕ). gave (item_step s (walked (item_step s) n i))) (ap (λ (o : RtcpItemWalk). o.at) z) ∙ g.1 i),
      )

-- ---- the writer's calls

-- what goes out to C and comes back in is the answer and the writer
back_in : (w : List ℕ) (a : Answer (Unit {0})) (v : Writer) (l : List ℕ) → Nonzero a → ((r : Refusal) → a ≡ refused r → v ≡ writer_in w)
    → ◌≡◌ {A = Answer (Unit {0}) × Writer × List ℕ} (answered (call_result a), writer_in (state_after w a v), l) (a, v, l)
back_in w (ok u) v l n k = ap (λ (v : Writer). (ok tt, v, l)) (writer_in_writer_out v)
back_in w (refused (refusal number first second)) v l n k =
    rw (ne_eqb number 0 (λ e. omega arith)) (ap (λ (v : Writer). (refused (refusal number first second), v, l)) (sym (k (refusal number first second) refl)))

called_in : (w : List ℕ) (q : Request) (l state out : List ℕ) (r : RtcpCall) → (r, state, out) ≡ call_with_buffer w (call q (writer_in w) l)
    → ◌≡◌ {A = Answer (Unit {0}) × Writer × List ℕ} (answered r, writer_in state, out) (call q (writer_in w) l)
called_in w q l state out r m =
    ap (λ (x : RtcpCall × List ℕ × List ℕ). (answered x.0, writer_in x.1, x.2)) m
    ∙ back_in w (call q (writer_in w) l).0 (call q (writer_in w) l).1 (call q (writer_in w) l).2 (call_nonzero q (writer_in w) l) (λ r e. (refused_call q (writer_in w) l r e).0)

calls : rfc.Calls writers
calls w (added g buf r state out) m = called_in w _ buf state out r m
calls w (rtcp_writer_close r state) m = called_in w _ [] state [] r m

-- for every list of results of the C functions of the writer, from the state that `rtcp_writer_new` left: as for those of compound_write
pub returned : (w : List ℕ) → w ≡ writer_out fresh → (rs : List Result) → Called writers rs w []
    → answers compounds (events writers rs w) [] ≡ booked compounds (map (book_input compounds) (events writers rs w)) empty
returned w e rs m = rfc.returned writers calls w (ap writer_in e ∙ writer_in_writer_out fresh) rs m
