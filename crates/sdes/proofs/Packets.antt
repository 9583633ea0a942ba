-- The turns over a packet's chunks, and the packet.
use Rattle.std.specs.Prelude.{Option, None, Some, is_some}
use Rattle.std.specs.Option.{option_or}
use Rattle.std.proofs.lemmas.Option.{none-some}
use Rattle.rfc3550.proofs.Prelude.{ℕ, zero, suc, ◌+◌, ◌-◌, ◌^◌, ◌<◌, ◌≤◌, ◌≡◌, refl, sym, ap, ◌∙◌, Bool, true, false, ◌||◌, List, [], ◌∷◌, arith, rules, ltb, ltb-true, ltb-false, length, take, drop, length-drop, drop-drop, length-take-le}
use Rattle.rfc3550.specs.Answer.{Refusal, refusal, Answer, ok, refused, refuse, ◌>>=◌, map_ok}
use Rattle.rfc3550.specs.Packet.{some, Chunk, chunk_bytes, chunk_has_cname, Content, Packet, sdes, content_bytes}
use Rattle.rfc3550.specs.Read.{SDES, low_in, check_packet, read_chunk, read_chunks, read_content, read_as}
use Rattle.rfc3550.proofs.Answers.{map_ok_inv, or_assoc, or_false}
use Rattle.utils.specs.Error.{value_in}
use Rattle.utils.proofs.Parts.{drop_take}
use Rattle.utils.proofs.Headers.{Accepted}
use Rattle.utils.proofs.Reading.{packet_of, content_in, Got, got, none_viewed_at_header, why_at_header, body_accepted, body_content, padding_is}
use Rattle.sdes_chunk.specs.declared.chunk.Chunks.{Chunks}
use Rattle.sdes_chunk.specs.Chunk.{cname_found, chunks_from}
use Rattle.sdes.specs.Sdes.{sdes_view}
use Rattle.sdes_chunk.proofs.Answers.{rest_is}
use Rattle.sdes_chunk.proofs.Chunks.{chunk_named}
use Rattle.sdes_chunk.proofs.Readings.{chunk_in, chunks_in}

-- ---- a run over chunks, and reading them

first_or : (a b : Option ℕ) → is_some (option_or a b) ≡ (is_some a || is_some b)
first_or None b = refl
first_or (Some a) b = refl

-- what a run over n chunks at the start of s says of reading them, in a body of any length
record Ran (n : ℕ) (cname : Option ℕ) (at : ℕ) (s : List ℕ) (r : Chunks) : Type 0 where
  pub size : ℕ
  pub place : r.at ≡ at + size
  pub within : size ≤ length s
  pub stops : (body : ℕ) → 0 < r.left → (k : Refusal) × (read_chunk (drop size s) ≡ refused k) × (read_chunks n body s ≡ refused k)
  pub more : (body : ℕ) → r.left ≤ 0 → size < length s → read_chunks n body s ≡ refuse 3 (body - (length s - size)) body
  pub all : (body : ℕ) → r.left ≤ 0 → length s ≤ size → (cs : List Chunk) × (read_chunks n body s ≡ ok cs) × ((is_some cname || some chunk_has_cname cs) ≡ is_some r.cname)

ran_none : (cname : Option ℕ) (at : ℕ) (s : List ℕ) (r : Chunks) → r ≡ record { at = at; left = 0; cname = cname } → Ran 0 cname at s r
unfolding read_chunks
ran_none cname at s r e =
    record {
      size = 0;
      place = omega (arith, ap (λ (r : Chunks). r.at) e);
      within = omega arith;
      stops = λ body l. absurd (omega (arith, ap (λ (r : Chunks). r.left) e));
      more = λ body l m. behind s body m;
      all = λ body l m. ([], nothing s body m, or_false (is_some cname) ∙ ap (λ (r : Chunks). is_some r.cname) (sym e));
    }
  where
    behind : (s : List ℕ) (body : ℕ) → 0 < length s → read_chunks 0 body s ≡ refuse 3 (body - (length s - 0)) body
    behind [] body m = absurd (omega arith)
    behind (b ∷ s) body m = ap (λ (n : ℕ). refuse 3 (body - n) body) {x = length (b ∷ s)} {y = length (b ∷ s) - 0} (omega arith)

    nothing : (s : List ℕ) (body : ℕ) → length s ≤ 0 → read_chunks 0 body s ≡ ok []
    nothing [] body m = refl
    nothing (b ∷ s) body m = absurd (omega arith)

ran_refused : (n : ℕ) (cname : Option ℕ) (at : ℕ) (s : List ℕ) (r : Chunks) (k : Refusal) → read_chunk s ≡ refused k → r ≡ record { at = at; left = suc n; cname = cname } → Ran (suc n) cname at s r
unfolding read_chunks ◌>>=◌
ran_refused n cname at s r k q e =
    let z : r.left ≡ suc n = ap (λ (r : Chunks). r.left) e in
    record {
      size = 0;
      place = omega (arith, ap (λ (r : Chunks). r.at) e);
      within = omega arith;
      stops = λ body l. (k, q, rw q);
      more = λ body l m. absurd (omega arith);
      all = λ body l m. absurd (omega arith);
    }

ran_more : (n : ℕ) (cname : Option ℕ) (at : ℕ) (s : List ℕ) (r : Chunks) (x : Chunk × List ℕ) → read_chunk s ≡ ok x
    → Ran n (option_or cname (cname_found 4 x.0.items)) (at + length (chunk_bytes x.0)) x.1 r → Ran (suc n) cname at s r
unfolding read_chunks ◌>>=◌
ran_more n cname at s r x q w =
    let g = chunk_in s q in
    let c = length (chunk_bytes x.0) in
    record {
      size = c + w.size;
      place = omega (arith, w.place);
      within = omega (arith, g.size, w.within);
      stops = λ body l.
          let d : drop w.size x.1 ≡ drop (c + w.size) s = ap (drop w.size) g.rest ∙ drop-drop w.size c s in
          let v = w.stops body l in
          (v.0, sym (ap read_chunk d) ∙ v.1, rw (q, v.2));
      more = λ body l m.
          let d : length x.1 - w.size ≡ length s - (c + w.size) = omega (arith, g.size) in
          rw (q, w.more body l (omega (arith, g.size)), d);
      all = λ body l m.
          let y = w.all body l (omega (arith, g.size)) in (
            x.0 ∷ y.0,
            rw (q, y.1),
            sym (or_assoc (is_some cname) (chunk_has_cname x.0) (some chunk_has_cname y.0))
                ∙ ap (λ (b : Bool). (is_some cname || b) || some chunk_has_cname y.0) (sym (chunk_named x.0))
                ∙ ap (λ (b : Bool). b || some chunk_has_cname y.0) (sym (first_or cname (cname_found 4 x.0.items)))
                ∙ y.2,
          );
    }

ran : (n : ℕ) (cname : Option ℕ) (at : ℕ) (s : List ℕ) (r : Chunks) → r ≡ chunks_from n at cname s → Ran n cname at s r
unfolding chunks_from
ran zero cname at s r e = ran_none cname at s r e
ran (suc n) cname at s r e = go (λ c a t q. ran n c a t r q) (read_chunk s) refl
  where
    go : ((c : Option ℕ) (a : ℕ) (t : List ℕ) → r ≡ chunks_from n a c t → Ran n c a t r) → (m : Answer (Chunk × List ℕ)) → read_chunk s ≡ m → Ran (suc n) cname at s r
    go again (refused k) q = ran_refused n cname at s r k q (e ∙ rw q)
    go again (ok x) q = ran_more n cname at s r x q (again _ _ x.1 (e ∙ rw q))

-- ---- the packet

module _ (s : List ℕ) (b : ℕ) (l : 4 ≤ b) (m : b ≤ length s) where
  body_is : length (take b s) ≡ b
  body_is = length-take-le b s m

  pub content_chunks : content_in SDES s b ≡ map_ok sdes (read_chunks (low_in s) (length (take b s)) (drop 4 (take b s)))
  unfolding read_content ◌>>=◌ map_ok
  content_chunks =
      let n : 4 + length (drop 4 (take b s)) ≡ length (take b s) = rw length-drop (omega (arith, body_is)) in
      rw n (go (read_chunks (low_in s) (length (take b s)) (drop 4 (take b s))))
    where
      go : (a : Answer (List Chunk)) → (a >>= λ cs. ok (sdes cs)) ≡ map_ok sdes a
      go (ok cs) = refl
      go (refused r) = refl

  -- the chunks that were read take the body
  chunks_body : {cs : List Chunk} → read_chunks (low_in s) (length (take b s)) (drop 4 (take b s)) ≡ ok cs → 4 + length (content_bytes (sdes cs)) ≡ b
  unfolding content_bytes
  chunks_body e = omega (arith, (chunks_in (low_in s) (length (take b s)) (drop 4 (take b s)) e).1, length-drop 4 (take b s), body_is)

-- where the body of an accepted packet ends
pub sdes_body : (s : List ℕ) (p : Packet) (g : Got SDES s p) → 4 + length (content_bytes p.content) ≡ g.body
sdes_body s p g =
    let w = map_ok_inv sdes (read_chunks (low_in s) (length (take g.body s)) (drop 4 (take g.body s))) (sym (content_chunks s g.body g.enough g.within) ∙ g.content) in
    ap (λ (c : Content). 4 + length (content_bytes c)) (sym w.2) ∙ chunks_body s g.body g.enough g.within w.1

module _ (s : List ℕ) (b : ℕ) (h : Some b ≡ value_in (check_packet SDES s)) where
  body : Accepted 4 s b
  body = body_accepted SDES s b h

  pub body_long : 4 ≤ length s
  body_long = let w = body in omega arith

  pub body_within : b ≤ length s
  body_within = body.within

  rest : List ℕ
  rest = drop 4 (take b s)

  rest_part : take (b - 4) (drop 4 s) ≡ rest
  unfolding rest
  rest_part = sym (drop_take 4 b s)

  rest_length : length rest ≡ b - 4
  unfolding rest
  rest_length = rw length-drop (omega (arith, body_is s b body.enough body.within))

  pub body_least : 4 ≤ b
  body_least = body.enough

  read : Answer (List Chunk)
  read = read_chunks (low_in s) (length (take b s)) rest

  whole : read_as SDES s ≡ map_ok (packet_of s b) (map_ok sdes read)
  unfolding read rest
  whole = body_content SDES s b h ∙ ap (map_ok (packet_of s b)) (content_chunks s b body.enough body.within)

  stops : (k : Refusal) → read ≡ refused k → read_as SDES s ≡ refused k
  unfolding map_ok
  stops k e = whole ∙ rw e

  module _ (n : ℕ) (r : Chunks) (g : r ≡ chunks_from n 0 None (take (b - 4) (drop 4 s))) (c : n ≡ low_in s) where
    reads : Ran (low_in s) None 0 rest r
    reads = ran (low_in s) None 0 rest r (g ∙ rw (c, rest_part))

    reads_place : r.at ≡ reads.size
    reads_place = omega (arith, reads.place)

    pub chunks_inside : r.at ≤ length (take (b - 4) (drop 4 s))
    chunks_inside = rw rest_part (omega (arith, reads.within, reads.place))

    pub chunks_fit : length s < 2 ^ 64 → 4 + r.at < 2 ^ 64
    chunks_fit l = omega (arith, reads.within, reads.place, rest_length, body.enough, body.within)

    -- a chunk that is refused
    at_chunk : 0 < r.left → (k : Refusal) × (read_chunk (take (length (take (b - 4) (drop 4 s)) - r.at) (drop r.at (take (b - 4) (drop 4 s)))) ≡ refused k) × (read_as SDES s ≡ refused k)
    unfolding read
    at_chunk l =
        let v = reads.stops (length (take b s)) l in
        let d : take (length (take (b - 4) (drop 4 s)) - r.at) (drop r.at (take (b - 4) (drop 4 s))) ≡ drop reads.size rest =
        rest_is (take (b - 4) (drop 4 s)) r.at ∙ ap (drop r.at) rest_part ∙ ap (λ (n : ℕ). drop n rest) reads_place in
        (v.0, ap read_chunk d ∙ v.1, stops v.0 v.2)

    pub none_at_chunk : 0 < r.left → None ≡ value_in (map_ok sdes_view (read_as SDES s))
    unfolding map_ok
    none_at_chunk l = rw (at_chunk l).2

    pub chunk_asked : 0 < r.left → value_in (read_chunk (take (length (take (b - 4) (drop 4 s)) - r.at) (drop r.at (take (b - 4) (drop 4 s))))) ≡ None
    chunk_asked l = ap value_in (at_chunk l).1

    pub why_at_chunk : (k : Refusal) → 0 < r.left → refused k ≡ read_chunk (take (length (take (b - 4) (drop 4 s)) - r.at) (drop r.at (take (b - 4) (drop 4 s)))) → refused k ≡ read_as SDES s
    why_at_chunk k l q =
        let v = at_chunk l in
        let f : refused k ≡ refused v.0 = q ∙ v.1 in
        let y = v.2 in
        cc

    module _ (l : r.left ≤ 0) where
      -- bytes behind the last chunk
      at_end : r.at < b - 4 → read_as SDES s ≡ refuse 3 (4 + r.at) b
      unfolding read
      at_end m =
          let t : length (take b s) ≡ b = body_is s b body.enough body.within in
          let d : length (take b s) - (length rest - reads.size) ≡ 4 + r.at = omega (arith, rest_length, reads.place) in
          stops _ (reads.more (length (take b s)) l (omega (arith, rest_length, reads.place)) ∙ rw (d, t))

      pub none_at_end : r.at < b - 4 → None ≡ value_in (map_ok sdes_view (read_as SDES s))
      unfolding map_ok
      none_at_end m = rw (at_end m)

      module _ (m : b - 4 ≤ r.at) where
        all : (cs : List Chunk) × (read ≡ ok cs) × (some chunk_has_cname cs ≡ is_some r.cname)
        unfolding read
        all = reads.all (length (take b s)) l (omega (arith, rest_length, reads.place))

        packet : read_as SDES s ≡ ok (packet_of s b (sdes all.0))
        unfolding map_ok
        packet = whole ∙ rw all.1

        pub sdes_read : (d : Bool) → d ≡ is_some r.cname → Some (record { n_chunks = n; has_cname = d; body = b; padding_len = length s - b }) ≡ value_in (map_ok sdes_view (read_as SDES s))
        unfolding read rest map_ok
        sdes_read d y =
            let q : length all.0 ≡ n = (chunks_in (low_in s) (length (take b s)) (drop 4 (take b s)) all.1).0 ∙ sym c in
            let t : 4 + length (content_bytes (sdes all.0)) ≡ b = chunks_body s b body.enough body.within all.1 in
            let v : sdes_view (packet_of s b (sdes all.0)) ≡ record { n_chunks = n; has_cname = d; body = b; padding_len = length s - b } = rw (q, all.2, y, t, length-drop b s) in
            rw packet (ap Some (sym v))

      -- what is left of a packet that is refused
      pub why_at_end : value_in (read_as SDES s) ≡ None → refused (refusal 3 (4 + r.at) b) ≡ read_as SDES s
      why_at_end z = go (ltb r.at (b - 4)) refl
        where
          go : (t : Bool) → ltb r.at (b - 4) ≡ t → refused (refusal 3 (4 + r.at) b) ≡ read_as SDES s
          go true q = sym (at_end (ltb-true r.at (b - 4) q))
          go false q = absurd (none-some _ (sym z ∙ ap value_in (packet (ltb-false r.at (b - 4) q))))

pub none_header : (s : List ℕ) → None ≡ value_in (check_packet SDES s) → None ≡ value_in (map_ok sdes_view (read_as SDES s))
none_header s z = none_viewed_at_header SDES s sdes_view z

pub why_header : (s : List ℕ) (r : Refusal) → refused r ≡ check_packet SDES s → refused r ≡ read_as SDES s
why_header s r q = why_at_header SDES s r q

-- the part that padding_bytes hands over is the packet's padding
pub padding_field : (s : List ℕ) (p : Packet) → read_as SDES s ≡ ok p → take (sdes_view p).padding_len (drop (sdes_view p).body s) ≡ p.padding
padding_field s p e =
    let g = got SDES s p e in
    let n : length s - g.body ≡ length p.padding = sym (length-drop g.body s) ∙ ap length g.padding in
    rw (sdes_body s p g, ← n) (padding_is SDES s p g)

pub ruleset packets = (rules, body_long, body_within, body_least, chunks_inside, chunks_fit, none_at_chunk, chunk_asked, why_at_chunk, none_at_end, sdes_read, why_at_end, none_header, why_header)
