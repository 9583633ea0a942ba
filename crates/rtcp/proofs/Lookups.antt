-- What C gets of a lookup, and what it says of the packet.
use Rattle.rfc3550.proofs.Prelude.{ℕ, ◌≤◌, ◌≡◌, sym, ap, ◌∙◌, subst, List, map, length, take}
use Rattle.rfc3550.specs.Answer.{Answer, ok}
use Rattle.rfc3550.specs.Bytes.{Bytes}
use Rattle.rfc3550.specs.Packet.{Packet, chunks_of}
use Rattle.rfc3550.specs.Read.{SDES, low_in, read_as}
use Rattle.rfc3550.specs.Lookup.{found_in, Visited, decoded, lookup_with}
use Rattle.sdes_lookup.proofs.Returned as lookups
use Rattle.rtcp.specs.Lookup.{lookup_result, lookup_with_answers}
use Rattle.rtcp.specs.declared.read_lookup.RtcpLookup.{RtcpLookup}
use Rattle.rtcp.proofs.Nonzero.{lookup_nonzero, accepted}

-- what `rtcp_sdes_lookup` returned, and the answers that it left: number 0 says that the packet is accepted, answer i is that of SSRC i, and no more
-- chunks were visited than the header counts
pub looked_up : (s ssrcs l l₁ : List ℕ) (r : RtcpLookup) → Bytes s → ((visits : ℕ) × Visited s ssrcs visits × ((r, l₁) ≡ lookup_with_answers (lookup_with visits s ssrcs l))) → r.number ≡ 0
    → (p : Packet) × (read_as SDES s ≡ ok p) × (map decoded (take (length ssrcs) l₁) ≡ found_in (chunks_of p.content) ssrcs) × (r.visits ≤ low_in s)
looked_up s ssrcs l l₁ r h c z =
    let a = lookup_with c.0 s ssrcs l in
    let w = accepted a.0 (lookup_nonzero c.0 s ssrcs l) (sym (ap (λ (x : RtcpLookup × List ℕ). x.0.number) c.2) ∙ z) in
    let n : r.visits ≡ w.0 = ap (λ (x : RtcpLookup × List ℕ). x.0.visits) c.2 ∙ ap (λ (a : Answer ℕ). (lookup_result a).visits) w.1 in
    let k : (ok w.0, l₁) ≡ a = ap (λ (x : Answer ℕ). (x, l₁)) (sym w.1) ∙ ap (λ (x : List ℕ). (a.0, x)) (ap (λ (x : RtcpLookup × List ℕ). x.1) c.2) in
    let t = lookups.looked_up s ssrcs l l₁ h w.0 (c.0, c.1, k) in
    (t.0, t.1, t.2, subst (λ (x : ℕ). x ≤ low_in s) (sym n) t.3)
