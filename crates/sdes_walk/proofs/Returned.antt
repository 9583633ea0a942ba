-- The answers of a walk that holds its bytes, from a walk just opened: answer i gives chunk i, its fields and its bytes, and 25 once all are given.
use Rattle.std.specs.Prelude.{Result, Ok}
use Rattle.rfc3550.proofs.Prelude.{ℕ, ◌≡◌, refl, sym, ap, ◌∙◌, List, length, take, drop}
use denote.Ref.{Bor}
use Rattle.rfc3550.specs.Answer.{Answer, ok, refused, map_ok}
use Rattle.rfc3550.specs.Bytes.{Bytes}
use Rattle.rfc3550.specs.Packet.{Chunk, chunk_bytes, chunks_of, Packet}
use Rattle.rfc3550.specs.Read.{SDES, nth, read_as}
use Rattle.rfc3550.specs.Walk as rfc
use Rattle.rfc3550.specs.Returned.{Ran, shown_of, firsts}
use Rattle.rfc3550.proofs.Answers.{ok_injective, map_ok_inv}
use Rattle.rfc3550.proofs.Walks.{sdes_walk_gives}
use Rattle.rfc3550.proofs.Places.{chunk_at_lem}
use Rattle.rfc3550.proofs.Returned.{Steps, runs}
use Rattle.utils.specs.declared.error.RtcpParseError.{RtcpParseError}
use Rattle.utils.specs.Error.{parsed_of}
use Rattle.sdes_chunk.specs.Chunk.{chunk_view}
use Rattle.sdes.specs.Walk.{sdes_walk, chunk_stepped}
use Rattle.sdes.specs.Returned.{chunk_seen, chunk_is}
use Rattle.sdes.specs.declared.sdes.ChunkWalk.{ChunkWalk}
use Rattle.sdes.proofs.Returned.{short, packet_of_lem}
use Rattle.sdes_walk.specs.Walk.{walk_on, step_at}
use Rattle.sdes_walk.specs.Returned.{held_steps, held_seen}
use Rattle.sdes_walk.specs.declared.SdesWalk.{SdesWalk}
use Rattle.sdes_walk.specs.declared.SteppedWalk.{SteppedWalk}

module _ (d : Bor (List ℕ)) (h : Bytes d.now) (p : Packet) (e : read_as SDES d.now ≡ ok p) where
  seen_chunk : (w : ChunkWalk) (a : Answer (Chunk × rfc.SdesWalk)) → rfc.sdes_step d.now (sdes_walk w) ≡ a
      → map_ok (chunk_seen d.now w) (map_ok chunk_stepped a) ≡ map_ok chunk_is (rfc.gave a)
  unfolding map_ok
  seen_chunk w (refused r) q = refl
  seen_chunk w (ok x) q =
      ap (λ (b : List ℕ). ok (chunk_view x.0, b)) (ap (λ (l : List ℕ). take (length (chunk_bytes x.0)) (drop w.at l)) (sym (short d.now p h e)) ∙ (chunk_at_lem d.now (sdes_walk w) h x q).1)

  moved_chunk : (w : ChunkWalk) (a : Answer (Chunk × rfc.SdesWalk)) → sdes_walk (rfc.walk_after w (map_ok chunk_stepped a)) ≡ rfc.walk_after (sdes_walk w) a
  unfolding map_ok
  moved_chunk w (refused r) = refl
  moved_chunk w (ok x) = refl

  steps : Steps held_steps (λ w. w.«data» ≡ d) (rfc.sdes_step d.now) (λ w. sdes_walk w.position) held_seen (map_ok chunk_is)
  steps =
      record {
        shows = λ w r o m.
            ap (map_ok (chunk_seen w.«data».now w.position)) m.0
            ∙ ap (λ (d : Bor (List ℕ)). map_ok (chunk_seen d.now w.position) (step_at d.now w.position)) o
            ∙ seen_chunk w.position (rfc.sdes_step d.now (sdes_walk w.position)) refl;
        moves = λ w r o m. (
          ap (λ (w : SdesWalk). w.«data») m.1 ∙ o,
          ap (λ (w : SdesWalk). sdes_walk w.position) m.1
              ∙ ap (λ (d : Bor (List ℕ)). sdes_walk (rfc.walk_after w.position (step_at d.now w.position))) o
              ∙ moved_chunk w.position (rfc.sdes_step d.now (sdes_walk w.position)),
        );
      }

  run_held : (w : SdesWalk) → w.«data» ≡ d → rfc.open_sdes d.now ≡ ok (sdes_walk w.position) → (rs : List SteppedWalk) → Ran held_steps rs w
      → shown_of held_steps held_seen rs w ≡ firsts (length rs) (λ (i : ℕ). map_ok chunk_is (nth i (chunks_of p.content)))
  run_held w o z rs t =
      let g = sdes_walk_gives d.now p h e in
      let k : sdes_walk w.position ≡ g.0 = ok_injective (sym z ∙ g.1) in
      runs held_steps (λ w. w.«data» ≡ d) (rfc.sdes_step d.now) (λ w. sdes_walk w.position) held_seen (map_ok chunk_is) steps w (chunks_of p.content) o
      (λ i. ap (λ (v : rfc.SdesWalk). rfc.gave (rfc.sdes_step d.now (rfc.walked (rfc.sdes_step d.now) v i))) k ∙ g.2 i) rs t

-- what `SdesWalk::open` returned on data that it accepts, and the answers of `SdesWalk::step` in turn
pub held_returned : (d : Bor (List ℕ)) → Bytes d.now → (o : Result SdesWalk RtcpParseError) (w : SdesWalk) → o ≡ Ok w → parsed_of o ≡ map_ok (walk_on d) (rfc.open_sdes d.now)
    → (p : Packet) × (read_as SDES d.now ≡ ok p)
    × ((rs : List SteppedWalk) → Ran held_steps rs w → shown_of held_steps held_seen rs w ≡ firsts (length rs) (λ (i : ℕ). map_ok chunk_is (nth i (chunks_of p.content))))
unfolding map_ok
held_returned d h o w q e =
    let m = map_ok_inv (walk_on d) (rfc.open_sdes d.now) (sym (sym (ap parsed_of q) ∙ e)) in
    packet_of_lem d.now h m.1 (λ p r. (p, r, run_held d h p r w (sym (ap (λ (w : SdesWalk). w.«data») m.2)) (m.1 ∙ ap (λ (w : SdesWalk). ok (sdes_walk w.position)) m.2)))
