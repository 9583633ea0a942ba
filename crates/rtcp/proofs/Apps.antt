-- APP packets: what C gets, from what the reader answers.
use Rattle.std.specs.Prelude.{Result, Ok}
use Rattle.rfc3550.proofs.Prelude.{◌≡◌, refl, List, ℕ, ◌≤◌, arith, rules, take, drop}
use Rattle.rfc3550.specs.Answer.{ok, map_ok}
use Rattle.rfc3550.specs.Packet.{Packet}
use Rattle.rfc3550.specs.Read.{APP, read_as}
use Rattle.utils.specs.Error.{parsed_of}
use Rattle.utils.specs.declared.error.RtcpParseError.{RtcpParseError}
use Rattle.app.specs.App.{app_view, name_of, data_of}
use Rattle.app.specs.declared.App.{App}
use Rattle.app.proofs.Apps.{parts}
use Rattle.rtcp.specs.App.{app_result}
use Rattle.rtcp.specs.declared.read_app.RtcpApp.{RtcpApp}
use Rattle.rtcp.proofs.Results.{viewed}

pub app_order : (o : Result App RtcpParseError) (a : App) (s : List ℕ) → o ≡ Ok a → parsed_of o ≡ map_ok app_view (read_as APP s) → 12 ≤ a.body
app_order o a s = viewed app_view (λ (a : App). 12 ≤ a.body) (read_as APP s) (λ p e. omega arith) o a

-- the bytes at C's places are the packet's fields
pub record Places (s : List ℕ) (p : Packet) (r : RtcpApp) : Type 0 where
  pub name : take r.name_len (drop r.name s) ≡ name_of p.content
  pub payload : take r.data_len (drop r.«data» s) ≡ data_of p.content
  pub padding : take r.padding_len (drop r.body s) ≡ p.padding

pub places : (s : List ℕ) (p : Packet) → read_as APP s ≡ ok p → Places s p (app_result (map_ok app_view (read_as APP s)))
unfolding map_ok
places s p e = let h = parts s p e in rw e (record { name = h.name; payload = h.payload; padding = h.padding })

pub ruleset apps = (rules, app_order)
