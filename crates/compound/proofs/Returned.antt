-- The answers of a walk over a datagram, from a walk just opened: answer i gives packet i with every field, and 25 once all are given.
use Rattle.std.specs.Prelude.{Result, Ok}
use Rattle.rfc3550.proofs.Prelude.{ℕ, ◌≡◌, refl, sym, ap, ◌∙◌, List, length}
use Rattle.rfc3550.specs.Answer.{ok, map_ok}
use Rattle.rfc3550.specs.Bytes.{Bytes}
use Rattle.rfc3550.specs.Packet.{Packet as Read}
use Rattle.rfc3550.specs.Read.{nth}
use Rattle.rfc3550.specs.Compound.{read_compound}
use Rattle.rfc3550.specs.Walk.{open_walk, step, gave, walked}
use Rattle.rfc3550.specs.Returned.{Ran, shown_of, firsts}
use Rattle.rfc3550.proofs.Answers.{bind_elim, ok_injective, map_ok_inv}
use Rattle.rfc3550.proofs.Walks.{walk_gives}
use Rattle.rfc3550.proofs.Returned.{answers_run}
use Rattle.utils.specs.Error.{parsed_of}
use Rattle.utils.specs.declared.error.RtcpParseError.{RtcpParseError}
use Rattle.compound.specs.Packet.{packet_view}
use Rattle.compound.specs.Compound.{walk_at}
use Rattle.compound.specs.Returned.{packet_steps, packet_seen, packet_is}
use Rattle.compound.specs.declared.compound.Walk.{Walk}
use Rattle.compound.proofs.Rebuilt.{step_is}
use Rattle.compound.specs.declared.packet.Packet.{Packet}

module _ (s : List ℕ) (h : Bytes s) where
  run_packets : (ps : List Read) → read_compound s ≡ ok ps → (w : Walk) → w.at ≡ 0 → (rs : List (Result (Packet × Walk) RtcpParseError)) → Ran (packet_steps s) rs w
      → shown_of (packet_steps s) (λ h r. map_ok (packet_seen s h) (parsed_of r)) rs w ≡ firsts (length rs) (λ (i : ℕ). map_ok packet_is (nth i ps))
  run_packets ps e w z rs t =
      answers_run (packet_steps s) (step s) (λ h. h.at) walk_at (λ w. refl) packet_view parsed_of (λ h r m. m) (λ h r. refl) (packet_seen s) packet_is
      (λ v x q. ap (λ (p : Read). (packet_view x.0, p)) (step_is s v.at h x q)) w ps
      (λ i. ap (λ (n : ℕ). gave (step s (walked (step s) n i))) z ∙ (walk_gives s ps h e).1 i) rs t

  -- a walk that `Walk::open` returned, and the answers of `Walk::step` in turn
  pub packets_returned : (w : Walk) → parsed_of (Ok w) ≡ map_ok walk_at (open_walk s)
      → (ps : List Read) × (read_compound s ≡ ok ps)
      × ((rs : List (Result (Packet × Walk) RtcpParseError)) → Ran (packet_steps s) rs w → shown_of (packet_steps s) (λ h r. map_ok (packet_seen s h) (parsed_of r)) rs w ≡ firsts (length rs) (λ (i : ℕ). map_ok packet_is (nth i ps)))
  unfolding open_walk
  packets_returned w e =
      let m = map_ok_inv walk_at (open_walk s) (sym e) in
      bind_elim (read_compound s) _ m.1 (λ ps q e₁. (ps, q, run_packets ps q w (sym (ap (λ (w : Walk). w.at) m.2) ∙ sym (ok_injective e₁))))
