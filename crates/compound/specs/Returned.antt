-- Steps of a walk over a datagram, and what is seen of each: its fields, and with what the accessors give of its bytes the packet.
use Rattle.std.specs.Prelude.{ℕ, ◌-◌, ◌≡◌, List, take, drop, Result}
use Rattle.rfc3550.specs.Answer.{map_ok}
use Rattle.rfc3550.specs.Packet.{Packet as Read}
use Rattle.rfc3550.specs.Walk.{step, walk_after}
use Rattle.rfc3550.specs.Returned.{Stepper}
use Rattle.utils.specs.Error.{parsed_of}
use Rattle.utils.specs.declared.error.RtcpParseError.{RtcpParseError}
use Rattle.compound.specs.Packet.{packet_view}
use Rattle.compound.specs.Compound.{step_view}
use Rattle.compound.specs.Rebuilt.{rebuilt}
use Rattle.compound.specs.declared.packet.Packet.{Packet}
use Rattle.compound.specs.declared.compound.Walk.{Walk}

-- the ensures of `Walk::step` on the bytes s, and the walk that is left
abbrev pub packet_steps : List ℕ → Stepper
packet_steps s = record { H = Walk; R = Result (Packet × Walk) RtcpParseError; Meets = λ self r. parsed_of r ≡ map_ok step_view (step s self.at); next = λ self r. walk_after self (parsed_of r) }

-- the packet stands from the walk's place to the next
abbrev pub packet_seen : List ℕ → Walk → Packet × Walk → Packet × Read
packet_seen s w x = (x.0, rebuilt (take (x.1.at - w.at) (drop w.at s)) x.0)

abbrev pub packet_is : Read → Packet × Read
packet_is p = (packet_view p, p)
