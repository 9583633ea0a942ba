-- The answers of a walk over chunks, from a walk just opened: answer i gives chunk i, its fields and its bytes, and 25 once all are given. A walk
-- over the items of these bytes gives the chunk's items (`items_returned` of sdes_chunk).
use Rattle.std.specs.Prelude.{Result, Ok}
use Rattle.rfc3550.proofs.Prelude.{ℕ, ◌≡◌, refl, sym, ap, ◌∙◌, List, arith, length, take, drop, take_all}
use Rattle.rfc3550.specs.Answer.{ok, map_ok}
use Rattle.rfc3550.specs.Bytes.{Bytes}
use Rattle.rfc3550.specs.Packet.{chunk_bytes, chunks_of, Packet}
use Rattle.rfc3550.specs.Read.{SDES, nth, read_as}
use Rattle.rfc3550.specs.Walk.{SdesWalk, open_sdes, sdes_step, gave, walked}
use Rattle.rfc3550.specs.Returned.{Ran, shown_of, firsts}
use Rattle.rfc3550.proofs.Answers.{bind_elim, ok_injective, map_ok_inv}
use Rattle.rfc3550.proofs.Packets.{packet_sound, length_layout}
use Rattle.rfc3550.proofs.Walks.{sdes_walk_gives}
use Rattle.rfc3550.proofs.Places.{chunk_at_lem}
use Rattle.rfc3550.proofs.Returned.{answers_run}
use Rattle.utils.specs.Error.{parsed_of}
use Rattle.utils.specs.declared.error.RtcpParseError.{RtcpParseError}
use Rattle.sdes_chunk.specs.Chunk.{chunk_view}
use Rattle.sdes.specs.Walk.{chunk_walk, sdes_walk}
use Rattle.sdes.specs.Returned.{chunk_steps, chunk_seen, chunk_is}
use Rattle.sdes.specs.declared.sdes.ChunkWalk.{ChunkWalk}
use Rattle.sdes_chunk.specs.declared.chunk.SdesChunk.{SdesChunk}

-- no packet is longer than 262,144 bytes
pub short : (s : List ℕ) (p : Packet) → Bytes s → read_as SDES s ≡ ok p → take 262144 s ≡ s
short s p h e =
    let g = packet_sound SDES s p h e in
    let n : length s ≡ _ = ap length (sym g.2) ∙ length_layout p in
    take_all 262144 s (omega (arith, g.0.size, g.0.words))

module _ (s : List ℕ) (h : Bytes s) where
  pub run_chunks : (p : Packet) → read_as SDES s ≡ ok p → (w : ChunkWalk) → open_sdes s ≡ ok (sdes_walk w) → (rs : List (Result (SdesChunk × ChunkWalk) RtcpParseError)) → Ran (chunk_steps s) rs w
      → shown_of (chunk_steps s) (λ h r. map_ok (chunk_seen s h) (parsed_of r)) rs w ≡ firsts (length rs) (λ (i : ℕ). map_ok chunk_is (nth i (chunks_of p.content)))
  run_chunks p e w z rs t =
      let g = sdes_walk_gives s p h e in
      let k : sdes_walk w ≡ g.0 = ok_injective (sym z ∙ g.1) in
      answers_run (chunk_steps s) (sdes_step s) sdes_walk chunk_walk (λ w. refl) chunk_view parsed_of (λ h r m. m) (λ h r. refl) (chunk_seen s) chunk_is
      (λ v x q. ap (λ (b : List ℕ). (chunk_view x.0, b)) (ap (λ (l : List ℕ). take (length (chunk_bytes x.0)) (drop v.at l)) (sym (short s p h e)) ∙ (chunk_at_lem s (sdes_walk v) h x q).1))
      w (chunks_of p.content) (λ i. ap (λ (v : SdesWalk). gave (sdes_step s (walked (sdes_step s) v i))) k ∙ g.2 i) rs t

  pub packet_of_lem : {P : Type 0} {v : SdesWalk} → open_sdes s ≡ ok v → ((p : Packet) → read_as SDES s ≡ ok p → P) → P
  unfolding open_sdes
  packet_of_lem e go = bind_elim (read_as SDES s) _ e (λ p q e₁. go p q)

  -- a walk that `ChunkWalk::open` returned, and the answers of `ChunkWalk::step` in turn
  pub chunks_returned : (w : ChunkWalk) → parsed_of (Ok w) ≡ map_ok chunk_walk (open_sdes s)
      → (p : Packet) × (read_as SDES s ≡ ok p)
      × ((rs : List (Result (SdesChunk × ChunkWalk) RtcpParseError)) → Ran (chunk_steps s) rs w → shown_of (chunk_steps s) (λ h r. map_ok (chunk_seen s h) (parsed_of r)) rs w ≡ firsts (length rs) (λ (i : ℕ). map_ok chunk_is (nth i (chunks_of p.content))))
  chunks_returned w e =
      let m = map_ok_inv chunk_walk (open_sdes s) (sym e) in
      let z : open_sdes s ≡ ok (sdes_walk w) = m.1 ∙ ap (λ (w : ChunkWalk). ok (sdes_walk w)) m.2 in
      packet_of_lem z (λ p q. (p, q, run_chunks p q w z))
