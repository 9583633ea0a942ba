-- The call: what is refused, and what an accepted packet says of its body.
use Rattle.std.specs.Prelude.{Result}
use Rattle.std.specs.Result.{IsErrAnd}
use Rattle.rfc3550.proofs.Prelude.{ℕ, ◌-◌, ◌<◌, ◌≤◌, ◌≡◌, refl, sym, ap, ◌∙◌, subst, List, arith, rules, length, take, drop, length-take-le}
use Rattle.rfc3550.specs.Answer.{Refusal, Answer, ok, refused, refuse, map_ok}
use Rattle.rfc3550.specs.Packet.{Chunk, Packet, chunks_of, sdes}
use Rattle.rfc3550.specs.Read.{SDES, low_in, read_chunks, read_as}
use Rattle.rfc3550.specs.Lookup.{Visited, lookup_with}
use Rattle.rfc3550.proofs.Answers.{ok_injective, map_ok_inv}
use Rattle.rfc3550.proofs.Lookups.{lookup_short, lookup_packet}
use Rattle.utils.specs.Error.{parsed_of, parse_refusal}
use Rattle.utils.specs.declared.error.RtcpParseError.{RtcpParseError}
use Rattle.utils.proofs.Errors.{parse_handed}
use Rattle.utils.proofs.Reading.{map_ok_refused, Got, got}
use Rattle.sdes_chunk.proofs.Readings.{chunks_in}
use Rattle.sdes.specs.declared.sdes.Sdes.{Sdes}
use Rattle.sdes.specs.Sdes.{sdes_view}
use Rattle.sdes.proofs.Packets.{sdes_body, content_chunks}
use Rattle.sdes_lookup.specs.Lookup.{Answered}

module _ (s ssrcs l : List ℕ) where
  abbrev Called : Answer ℕ → List ℕ → Type 0
  Called a l₁ = (visits : ℕ) × Visited s ssrcs visits × ((a, l₁) ≡ lookup_with visits s ssrcs l)

  pub call_short : length l < length ssrcs → Called (refuse 31 0 0) l
  unfolding lookup_with map_ok
  call_short h = (0, omega arith, rw (lookup_short (length l) s ssrcs h))

  -- what reading refuses, handed on by `?`
  module _ (h : length ssrcs ≤ length l) where
    refuses : (k : Refusal) → refused k ≡ map_ok sdes_view (read_as SDES s) → Called (refused k) l
    unfolding lookup_with map_ok
    refuses k q = (0, omega arith, rw (lookup_packet (length l) s ssrcs h, map_ok_refused sdes_view (read_as SDES s) (sym q)))

    pub call_refused : (r : Result ℕ RtcpParseError) (e : RtcpParseError) → IsErrAnd r (λ (x : RtcpParseError). x ≡ e) → refused (parse_refusal e) ≡ map_ok sdes_view (read_as SDES s) → Called (parsed_of r) l
    call_refused r e w q = subst (λ (a : Answer ℕ). Called a l) (sym (parse_handed r e (refused (parse_refusal e)) w refl)) (refuses (parse_refusal e) q)

-- what an accepted packet says of its body
pub record Opened (s : List ℕ) (o : Sdes) : Type 0 where
  pub packet : Packet
  pub accepted : read_as SDES s ≡ ok packet
  pub read : read_chunks o.n_chunks (length (take o.body s)) (drop 4 (take o.body s)) ≡ ok (chunks_of packet.content)
  pub count : o.n_chunks ≡ low_in s
  pub least : 4 ≤ o.body
  pub within : o.body ≤ length s

module _ (s : List ℕ) (o : Sdes) (e : ok o ≡ map_ok sdes_view (read_as SDES s)) where
  pub opens : Opened s o
  opens =
      let v = map_ok_inv sdes_view (read_as SDES s) (sym e) in
      go v.0 v.1 v.2 (got SDES s v.0 v.1)
    where
      go : (p : Packet) → read_as SDES s ≡ ok p → sdes_view p ≡ o → Got SDES s p → Opened s o
      go p r m g =
          let b : g.body ≡ o.body = sym (sdes_body s p g) ∙ ap (λ (o : Sdes). o.body) m in
          let w = map_ok_inv sdes (read_chunks (low_in s) (length (take g.body s)) (drop 4 (take g.body s))) (sym (content_chunks s g.body g.enough g.within) ∙ g.content) in
          let c : w.0 ≡ chunks_of p.content = ap chunks_of w.2 in
          let n : o.n_chunks ≡ low_in s = sym (ap (λ (o : Sdes). o.n_chunks) m) ∙ ap length (sym c) ∙ (chunks_in (low_in s) (length (take g.body s)) (drop 4 (take g.body s)) w.1).0 in
          record {
            packet = p;
            accepted = r;
            read = rw (n, ← b, ← c) w.1;
            count = n;
            least = rw (← b) g.enough;
            within = rw (← b) g.within;
          }

  pub call_within : o.body ≤ length s
  call_within = opens.within

  pub call_body : o.body ≡ length (take o.body s)
  call_body = sym (length-take-le o.body s opens.within)

  pub call_count : o.n_chunks < 32
  unfolding low_in
  call_count = omega (arith, opens.count)

  pub call_chunks : (cs : List Chunk) × (read_chunks o.n_chunks (length (take o.body s)) (drop 4 (take o.body s)) ≡ ok cs)
  call_chunks = (chunks_of opens.packet.content, opens.read)

  pub call_least : 4 ≤ length (take o.body s)
  call_least = rw (length-take-le o.body s opens.within) opens.least

  pub call_done : (ssrcs l : List ℕ) → length ssrcs ≤ length l → (v : ℕ) (l₁ : List ℕ) → Answered o.n_chunks (take o.body s) ssrcs l v l₁ → Called s ssrcs l (ok v) l₁
  unfolding lookup_with map_ok
  call_done ssrcs l h v l₁ a =
      let w = opens in
      let c : a.chunks ≡ chunks_of w.packet.content = ok_injective (sym a.read ∙ w.read) in
      (v, rw (← w.count) a.most, rw (lookup_packet (length l) s ssrcs h, w.accepted, ← c) (ap (λ (x : List ℕ). (ok v, x)) a.laid))

pub ruleset calls = (rules, call_within, call_body)
