-- The steps of the walk over a packet's chunks.
use Rattle.std.specs.Prelude.{None, Some}
use Rattle.rfc3550.proofs.Prelude.{ℕ, zero, suc, ◌+◌, ◌-◌, ◌^◌, ◌<◌, ◌≤◌, min, ◌≡◌, refl, sym, ap, ◌∙◌, List, [], ◌∷◌, arith, rules, lt-ltb, le-ltb, length, take, drop, length-take, length-drop, length-take-le, take_all}
use Rattle.rfc3550.specs.Answer.{Refusal, ok, refused, refuse, need, ◌>>◌, ◌>>=◌, map_ok}
use Rattle.rfc3550.specs.Packet.{Chunk, chunk_bytes, Packet, content_bytes}
use Rattle.rfc3550.specs.Read.{SDES, read_chunk, read_as}
use Rattle.rfc3550.specs.Walk.{open_sdes, sdes_step}
use Rattle.rfc3550.proofs.Answers.{map_ok_inv}
use Rattle.utils.proofs.Errors.{parse_handed}
use Rattle.utils.specs.Error.{value_in}
use Rattle.utils.proofs.Values.{value_is, none_below}
use Rattle.utils.proofs.Parts.{drop_take}
use Rattle.utils.proofs.Reading.{map_ok_refused, got}
use Rattle.sdes_chunk.specs.declared.chunk.SdesChunk.{SdesChunk}
use Rattle.sdes_chunk.specs.Chunk.{chunk_first}
use Rattle.sdes_chunk.proofs.Readings.{chunk_in}
use Rattle.sdes.specs.declared.sdes.Sdes.{Sdes}
use Rattle.sdes.specs.declared.sdes.ChunkWalk.{ChunkWalk}
use Rattle.sdes.specs.Sdes.{sdes_view}
use Rattle.sdes.specs.Walk.{chunk_walk, sdes_walk, chunk_stepped}
use Rattle.sdes.proofs.Packets.{sdes_body}

module _ (s : List ℕ) where
  pub chunks_not_opened : (k : Refusal) → refused k ≡ map_ok sdes_view (read_as SDES s) → refused k ≡ map_ok chunk_walk (open_sdes s)
  unfolding open_sdes ◌>>=◌ map_ok
  chunks_not_opened k e = rw (map_ok_refused sdes_view (read_as SDES s) (sym e))

  pub chunks_opened : (o : Sdes) → ok o ≡ map_ok sdes_view (read_as SDES s) → ok (record { at = 4; end = o.body }) ≡ map_ok chunk_walk (open_sdes s)
  unfolding open_sdes ◌>>=◌ map_ok
  chunks_opened o e =
      let w = map_ok_inv sdes_view (read_as SDES s) (sym e) in
      go w.0 w.1 w.2
    where
      go : (x : Packet) → read_as SDES s ≡ ok x → sdes_view x ≡ o → ok (record { at = 4; end = o.body }) ≡ map_ok chunk_walk (open_sdes s)
      go x r m =
          let a : 4 + length (content_bytes x.content) ≡ o.body = ap (λ (p : Sdes). p.body) m in
          let g = got SDES s x r in
          let b : length s - length x.padding ≡ o.body = rw (← g.padding, length-drop) (omega (arith, g.within, sdes_body s x g)) in
          rw (r, b)

take_length_take : (n : ℕ) (s : List ℕ) → take (length (take n s)) s ≡ take n s
take_length_take zero s = refl
take_length_take (suc n) [] = refl
take_length_take (suc n) (b ∷ s) = ap (λ (l : List ℕ). b ∷ l) (take_length_take n s)

-- the place up to which a step reads
limit_is : (s : List ℕ) (n : ℕ) → n ≡ min (length s) 262144 → n ≡ length (take 262144 s)
limit_is s n e = rw e (simp length-take (omega arith))

module _ (s : List ℕ) (n : ℕ) (limit : n ≡ min (length s) 262144) where
  r : n ≡ length (take 262144 s)
  r = limit_is s n limit

  pub limit_within : n ≤ length s
  limit_within = rw r (simp length-take (omega arith))

  part_is : (at : ℕ) → take (n - at) (drop at s) ≡ drop at (take 262144 s)
  part_is at = sym (drop_take at n s) ∙ ap (drop at) (rw r (take_length_take 262144 s))

  module _ (w : ChunkWalk) where
    pub chunk_past_limit : n ≤ w.at → refuse 25 0 0 ≡ map_ok chunk_stepped (sdes_step s (sdes_walk w))
    unfolding sdes_step need ◌>>◌ map_ok
    chunk_past_limit l = rw (← r, le-ltb w.at n l)

    pub chunk_past_end : w.at < n → w.end ≤ w.at → refuse 25 0 0 ≡ map_ok chunk_stepped (sdes_step s (sdes_walk w))
    unfolding sdes_step need ◌>>◌ map_ok
    chunk_past_end l m = rw (← r, lt-ltb w.at n l, le-ltb w.at w.end m)

    module _ (l : w.at < n) (m : w.at < w.end) where
      pub step_asked : None ≡ value_in (map_ok chunk_first (read_chunk (take (n - w.at) (drop w.at s)))) → value_in (read_chunk (take (n - w.at) (drop w.at s))) ≡ None
      step_asked e = none_below chunk_first (read_chunk (take (n - w.at) (drop w.at s))) e

      pub chunk_not_stepped : (k : Refusal) → refused k ≡ read_chunk (take (n - w.at) (drop w.at s)) → refused k ≡ map_ok chunk_stepped (sdes_step s (sdes_walk w))
      unfolding sdes_step need ◌>>◌ ◌>>=◌ map_ok
      chunk_not_stepped k q =
          let x : read_chunk (drop w.at (take 262144 s)) ≡ refused k = sym (q ∙ ap read_chunk (part_is w.at)) in
          rw (← r, lt-ltb w.at n l, lt-ltb w.at w.end m, x)

      module _ (c : SdesChunk) (h : Some c ≡ value_in (map_ok chunk_first (read_chunk (take (n - w.at) (drop w.at s))))) where
        came : (x : Chunk × List ℕ) × (read_chunk (drop w.at (take 262144 s)) ≡ ok x) × (chunk_first x ≡ c)
        came =
            map_ok_inv chunk_first (read_chunk (drop w.at (take 262144 s)))
            (sym (value_is (map_ok chunk_first (read_chunk (drop w.at (take 262144 s)))) c (h ∙ ap (λ (bs : List ℕ). value_in (map_ok chunk_first (read_chunk bs))) (part_is w.at))))

        pub chunk_fits : length s < 2 ^ 64 → w.at + c.length < 2 ^ 64
        chunk_fits b =
            let a : length (chunk_bytes came.0.0) ≡ c.length = ap (λ (c : SdesChunk). c.length) came.2 in
            omega (arith, (chunk_in (drop w.at (take 262144 s)) came.1).size, length-drop w.at (take 262144 s), limit_within, r)

        pub chunk_stepped_lem : ok (c, record { at = w.at + c.length; end = w.end }) ≡ map_ok chunk_stepped (sdes_step s (sdes_walk w))
        unfolding sdes_step need ◌>>◌ ◌>>=◌ map_ok
        chunk_stepped_lem = go came.0 came.1 came.2
          where
            go : (x : Chunk × List ℕ) → read_chunk (drop w.at (take 262144 s)) ≡ ok x → chunk_first x ≡ c
                → ok (c, record { at = w.at + c.length; end = w.end }) ≡ map_ok chunk_stepped (sdes_step s (sdes_walk w))
            go x q a = rw (← r, lt-ltb w.at n l, lt-ltb w.at w.end m, q, ← a)

pub ruleset walks = (rules, parse_handed, chunks_not_opened, chunks_opened, limit_within, chunk_past_limit, chunk_past_end, step_asked, chunk_not_stepped, chunk_fits, chunk_stepped_lem)
