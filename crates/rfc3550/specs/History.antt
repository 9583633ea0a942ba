-- Document 02, order 3: what happens to a source, and its figures over exact integers.
use Rattle.std.specs.Prelude.{ℕ, ◌+◌, ◌<◌, Bool, true, false, ◌&&◌, not, List, [], ◌∷◌}
use Rattle.std.proofs.Math.IntN.{sub_ℕ}
use Rattle.rfc3550.specs.Answer.{pick}
use Rattle.rfc3550.specs.Packet.{Block}
use Rattle.rfc3550.specs.Reception.{Reception, Verdict, waits, starts, ahead, jumps, behind, verdict, accepted, update, clamped, fraction_lost, Reported, report_block}

-- a packet comes, with its sequence number, timestamp and arrival; or a block is asked for, with SSRC, last SR and delay
pub data Happening : Type 0 where
  packet : ℕ → ℕ → ℕ → Happening
  block : ℕ → ℕ → ℕ → Happening

abbrev pub HappeningTyped : Happening → Type 0
HappeningTyped (packet seq timestamp arrival) = seq < 65536
HappeningTyped (block ssrc lsr dlsr) = Unit {0}

abbrev pub reception_after : Reception → Happening → Reception
reception_after s (packet seq timestamp arrival) = (update s seq timestamp arrival).0
reception_after s (block ssrc lsr dlsr) = (report_block s ssrc lsr dlsr).1

unfoldable pub reception_after_all : Reception → List Happening → Reception
reception_after_all s [] = s
reception_after_all s (e ∷ es) = reception_after_all (reception_after s e) es

-- what is answered: whether the packet is accepted, or the block
pub data Reply : Type 0 where
  packet_reply : Bool → Reply
  block_reply : Reported → Reply

abbrev pub reply : Reception → Happening → Reply
reply s (packet seq timestamp arrival) = packet_reply (update s seq timestamp arrival).1
reply s (block ssrc lsr dlsr) = block_reply (report_block s ssrc lsr dlsr).0

unfoldable pub replies : Reception → List Happening → List Reply
replies s [] = []
replies s (e ∷ es) = reply s e ∷ replies (reception_after s e) es

-- ---- what A.1 says of each packet, and where a block was asked for

pub data Outcome : Type 0 where
  came : Verdict → Outcome
  asked : Outcome

abbrev pub outcome : Reception → Happening → Outcome
outcome s (packet seq timestamp arrival) = came (verdict s seq)
outcome s (block ssrc lsr dlsr) = asked

unfoldable pub outcomes : Reception → List Happening → List Outcome
outcomes s [] = []
outcomes s (e ∷ es) = outcome s e ∷ outcomes (reception_after s e) es

-- "the last start (probation's end or A.1's restart)"
abbrev pub is_start : Outcome → Bool
is_start (came (waits n)) = false
is_start (came starts) = true
is_start (came (ahead d)) = false
is_start (came jumps) = false
is_start (came behind) = false
is_start asked = false

unfoldable pub no_start : List Outcome → Bool
no_start [] = true
no_start (o ∷ os) = not (is_start o) && no_start os

-- ---- counts over exact integers

-- "fewer than 2^31 packets came"
unfoldable pub packets_in : List Outcome → ℕ
packets_in [] = 0
packets_in (came v ∷ os) = 1 + packets_in os
packets_in (asked ∷ os) = packets_in os

-- 1 for a packet that A.1 accepts as valid
abbrev pub counts : Verdict → ℕ
counts v = pick (accepted v) 1 0

-- "A.1 differences below 3000"
abbrev pub moves : Verdict → ℕ
moves (waits n) = 0
moves starts = 0
moves (ahead d) = d
moves jumps = 0
moves behind = 0

unfoldable pub accepted_in : List Outcome → ℕ
accepted_in [] = 0
accepted_in (came v ∷ os) = counts v + accepted_in os
accepted_in (asked ∷ os) = accepted_in os

-- "the extended sequence moved by fewer than 2^31"
unfoldable pub moved_in : List Outcome → ℕ
moved_in [] = 0
moved_in (came v ∷ os) = moves v + moved_in os
moved_in (asked ∷ os) = moved_in os

-- "since the last block or that start": how many were expected, and how many received, from so many on
unfoldable pub interval : ℕ → ℕ → List Outcome → ℕ × ℕ
interval e r [] = (e, r)
interval e r (came v ∷ os) = interval (e + moves v) (r + counts v) os
interval e r (asked ∷ os) = interval 0 0 os

-- ---- the figures, from the number of the starting packet and what came after it; that packet is expected and received too

-- "received is the number of packets that A.1 accepts as valid from the starting one on"
abbrev pub received_since : List Outcome → ℕ
received_since os = 1 + accepted_in os

-- "The extended sequence is that one's number plus the sum of the later ones' A.1 differences below 3000"
abbrev pub sequence_since : ℕ → List Outcome → ℕ
sequence_since seq os = seq + moved_in os

-- "Losses, clamped, and the fraction since the last block or that start are A.3's over exact integers"
abbrev pub block_since : ℕ → List Outcome → ℕ → ℕ → ℕ → ℕ → Block
block_since seq os jitter ssrc lsr dlsr =
    record {
      ssrc = ssrc;
      fraction = fraction_lost (sub_ℕ (interval 1 1 os).0 (interval 1 1 os).1) (interval 1 1 os).0;
      lost = clamped (sub_ℕ (1 + moved_in os) (received_since os));
      sequence = sequence_since seq os;
      jitter = jitter;
      lsr = lsr;
      dlsr = dlsr;
    }
