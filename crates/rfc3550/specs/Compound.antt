-- Document 01, "Compounds": reading a datagram of any length. Per packet 2(4, left), 1, 2(L, left), 9, 7, then the packet's own steps; 8 last.
use Rattle.std.specs.Prelude.{ℕ, zero, suc, Bool, true, false, ◌||◌, not, List, [], ◌∷◌, length, take, drop, leb, eqb}
use Rattle.rfc3550.specs.Answer.{Answer, ok, ◌>>=◌, ◌>>◌, need}
use Rattle.rfc3550.specs.Packet.{Packet, is_report, has_cname, some}
use Rattle.rfc3550.specs.Read.{version_in, padded, low_in, type_in, stated, kind_of, read_as}

-- the packet at the start of the bytes left; `first` says that none stands before it
unfoldable pub read_packet : Bool → List ℕ → Answer Packet
read_packet first s = do
  need (leb 4 (length s)) 2 4 (length s)
  need (eqb (version_in s) 2) 1 (version_in s) 0
  need (leb (stated s) (length s)) 2 (stated s) (length s)
  need (not (padded s) || eqb (stated s) (length s)) 9 0 0
  need (not first || is_report (type_in s)) 7 (type_in s) 0
  read_as (kind_of (type_in s) (low_in s)) (take (stated s) s)

-- the packets after the first. A packet takes four bytes at least, so the length is enough turns
unfoldable pub read_packets : ℕ → List ℕ → Answer (List Packet)
read_packets zero s = ok []
read_packets (suc turns) [] = ok []
read_packets (suc turns) (b ∷ s) = do
  p ← read_packet false (b ∷ s)
  ps ← read_packets turns (drop (stated (b ∷ s)) (b ∷ s))
  ok (p ∷ ps)

unfoldable pub read_compound : List ℕ → Answer (List Packet)
read_compound s = do
  p ← read_packet true s
  ps ← read_packets (length s) (drop (stated s) s)
  need (some has_cname (p ∷ ps)) 8 0 0
  ok (p ∷ ps)
