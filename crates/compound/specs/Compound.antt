-- What the code hands over of a datagram and of a walk over it, and the steps of a packet's frame.
use Rattle.std.specs.Prelude.{ℕ, ◌+◌, Bool, ◌||◌, not, List, [], ◌∷◌, length, take, drop, leb, ltb, eqb}
use Rattle.rfc3550.specs.Answer.{Answer, ok, ◌>>◌, need}
use Rattle.rfc3550.specs.Packet.{Packet as Read, type, layout, is_report}
use Rattle.rfc3550.specs.Read.{version_in, padded, type_in, stated}
use Rattle.compound.specs.Packet.{packet_view}
use Rattle.compound.specs.declared.packet.Packet.{Packet}
use Rattle.compound.specs.declared.compound.Compound.{Compound}
use Rattle.compound.specs.declared.compound.Walk.{Walk}

-- ---- a packet's frame: what is tested before its own steps

abbrev pub padding_last : List ℕ → ℕ → Bool
padding_last s n = not (padded s) || eqb n (length s)

abbrev pub report_first : Bool → ℕ → Bool
report_first first t = not first || is_report t

unfoldable pub frame : Bool → List ℕ → Answer ℕ
frame first s = do
  need (leb 4 (length s)) 2 4 (length s)
  need (eqb (version_in s) 2) 1 (version_in s) 0
  need (leb (stated s) (length s)) 2 (stated s) (length s)
  need (padding_last s (stated s)) 9 0 0
  need (report_first first (type_in s)) 7 (type_in s) 0
  ok (stated s)

-- of the packet at a place of a datagram
unfoldable pub frame_at : List ℕ → ℕ → Answer ℕ
frame_at s at = do
  need (ltb at (length s)) 25 0 0
  frame (eqb at 0) (drop at s)

-- ---- the packet at the start of the bytes s, and its length

-- what is asked of the packet, and its length
abbrev pub with_length : {B : Type 0} → (Read → B) → List ℕ → Read → B × ℕ
with_length f s p = (f p, stated s)

-- ---- a datagram, and a walk over it

abbrev pub compound_view : List Read → Compound
compound_view ps = record { n_packets = length ps }

-- three numbers for each packet, in order: its type, its offset in the datagram and its length
unfoldable pub rows_from : ℕ → List Read → List ℕ
rows_from at [] = []
rows_from at (p ∷ ps) = type p.content ∷ at ∷ length (layout p) ∷ rows_from (at + length (layout p)) ps

abbrev pub packet_rows : List Read → List ℕ
packet_rows ps = rows_from 0 ps

-- the type of each row, and the part of a datagram that it names
unfoldable pub row_parts : List ℕ → List ℕ → List (ℕ × List ℕ)
row_parts s [] = []
row_parts s (t ∷ []) = []
row_parts s (t ∷ at ∷ []) = []
row_parts s (t ∷ at ∷ n ∷ rows) = (t, take n (drop at s)) ∷ row_parts s rows

-- and what they are of a packet
abbrev pub row_is : Read → ℕ × List ℕ
row_is p = (type p.content, layout p)

abbrev pub walk_at : ℕ → Walk
walk_at at = record { at = at }

abbrev pub step_view : Read × ℕ → Packet × Walk
step_view x = (packet_view x.0, walk_at x.1)
