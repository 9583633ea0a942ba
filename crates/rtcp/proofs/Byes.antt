-- BYE packets: what C gets, from what the readers answer.
use Rattle.std.specs.Prelude.{Result, Ok}
use Rattle.rfc3550.proofs.Prelude.{◌≡◌, refl, List, ℕ, ◌+◌, ◌^◌, ◌<◌, ◌≤◌, arith, rules, take, drop}
use Rattle.rfc3550.specs.Answer.{ok, map_ok}
use Rattle.rfc3550.specs.Packet.{Packet}
use Rattle.rfc3550.specs.Read.{BYE, read_as}
use Rattle.utils.specs.Error.{parsed_of}
use Rattle.utils.specs.declared.error.RtcpParseError.{RtcpParseError}
use Rattle.bye.specs.Bye.{bye_view, leaving, reason_bytes, tail_bytes}
use Rattle.bye.specs.declared.Bye.{Bye}
use Rattle.bye.proofs.Byes.{parts}
use Rattle.rtcp.specs.Bye.{bye_result}
use Rattle.rtcp.specs.declared.read_bye.RtcpBye.{RtcpBye}
use Rattle.rtcp.proofs.Results.{viewed}

module _ (o : Result Bye RtcpParseError) (b : Bye) (s : List ℕ) (p : o ≡ Ok b) (q : parsed_of o ≡ map_ok bye_view (read_as BYE s)) where
  pub bye_order : b.reason + b.reason_len ≤ b.body
  bye_order = viewed bye_view (λ (b : Bye). b.reason + b.reason_len ≤ b.body) (read_as BYE s) (λ p e. omega arith) o b p q

  pub bye_fits : b.body < 2 ^ 64 → b.reason + b.reason_len < 2 ^ 64
  bye_fits l = let m = bye_order in omega arith

-- the bytes at C's places are the packet's fields
pub record Places (s : List ℕ) (p : Packet) (r : RtcpBye) : Type 0 where
  pub because : take r.reason_len (drop r.reason s) ≡ reason_bytes (leaving p.content)
  pub tail : take r.tail_len (drop r.tail s) ≡ tail_bytes (leaving p.content)
  pub padding : take r.padding_len (drop r.body s) ≡ p.padding

pub places : (s : List ℕ) (p : Packet) → read_as BYE s ≡ ok p → Places s p (bye_result (map_ok bye_view (read_as BYE s)))
unfolding map_ok
places s p e = let h = parts s p e in rw e (record { because = h.because; tail = h.tail; padding = h.padding })

pub ruleset byes = (rules, bye_order, bye_fits)
