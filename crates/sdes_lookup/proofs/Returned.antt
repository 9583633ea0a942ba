-- What `lookup` returned, and the answers that it left, back to the packet.
use Rattle.rfc3550.proofs.Prelude.{ℕ, ◌≤◌, ◌≡◌, sym, ap, subst, List, map, length, take}
use Rattle.rfc3550.specs.Answer.{Answer, ok}
use Rattle.rfc3550.specs.Bytes.{Bytes}
use Rattle.rfc3550.specs.Packet.{Packet, chunks_of}
use Rattle.rfc3550.specs.Read.{SDES, low_in, read_as}
use Rattle.rfc3550.specs.Lookup.{found_in, Visited, decoded, lookup_with}
use Rattle.rfc3550.proofs.Claims.{answers_told}

-- the packet is accepted, answer i is that of SSRC i, and no more chunks were visited than the header counts
pub looked_up : (s ssrcs l l₁ : List ℕ) → Bytes s → (n : ℕ) → ((visits : ℕ) × Visited s ssrcs visits × ((ok n, l₁) ≡ lookup_with visits s ssrcs l))
    → (p : Packet) × (read_as SDES s ≡ ok p) × (map decoded (take (length ssrcs) l₁) ≡ found_in (chunks_of p.content) ssrcs) × (n ≤ low_in s)
looked_up s ssrcs l l₁ h n c =
    let e : (lookup_with c.0 s ssrcs l).0 ≡ ok n = sym (ap (λ (x : Answer ℕ × List ℕ). x.0) c.2) in
    let f : l₁ ≡ (lookup_with c.0 s ssrcs l).1 = ap (λ (x : Answer ℕ × List ℕ). x.1) c.2 in
    let t = answers_told c.0 s ssrcs l n h e in
    (t.0, t.1, subst (λ (x : List ℕ). map decoded (take (length ssrcs) x) ≡ found_in (chunks_of t.0.content) ssrcs) (sym f) t.3, subst (λ (x : ℕ). x ≤ low_in s) (sym t.2) c.1)
