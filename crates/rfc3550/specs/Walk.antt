-- Document 01, "Compounds" and "Walks": a walk is a position, lent the bytes at each step. A step gives a part and the walk after it, and a
-- refusal leaves the walk as before. Any position may be handed in, and any bytes.
use Rattle.std.specs.Prelude.{ℕ, zero, suc, ◌+◌, ◌-◌, not, List, length, get_or, take, drop, ltb, eqb}
use Rattle.rfc3550.specs.Answer.{Answer, ok, refused, ◌>>=◌, ◌>>◌, need}
use Rattle.rfc3550.specs.Packet.{Item, item_bytes, Chunk, chunk_bytes, Packet}
use Rattle.rfc3550.specs.Read.{SDES, read_item, read_chunk, read_as, stated}
use Rattle.rfc3550.specs.Compound.{read_packet, read_compound}

-- ---- over a datagram: opens only on an accepted one

unfoldable pub open_walk : List ℕ → Answer ℕ
open_walk s = do
  ps ← read_compound s
  ok 0

unfoldable pub step : List ℕ → ℕ → Answer (Packet × ℕ)
step s at = do
  need (ltb at (length s)) 25 0 0
  p ← read_packet (eqb at 0) (drop at s)
  ok (p, at + stated (drop at s))

-- ---- over the chunks of an SDES packet: opens only on an accepted one, and keeps the end of its body

pub record SdesWalk : Type 0 where
  pub at : ℕ
  pub end : ℕ

unfoldable pub open_sdes : List ℕ → Answer SdesWalk
open_sdes s = do
  p ← read_as SDES s
  ok (record { at = 4; end = length s - length p.padding })

unfoldable pub sdes_step : List ℕ → SdesWalk → Answer (Chunk × SdesWalk)
sdes_step s w = do
  need (ltb w.at (length (take 262144 s))) 25 0 0
  need (ltb w.at w.end) 25 0 0
  x ← read_chunk (drop w.at (take 262144 s))
  ok (x.0, record { at = w.at + length (chunk_bytes x.0); end = w.end })

-- ---- over the items of a chunk, counted from its start: opens only on an accepted chunk, 25 at the closing zero

unfoldable pub open_items : List ℕ → Answer ℕ
open_items s = do
  x ← read_chunk s
  ok 4

unfoldable pub item_step : List ℕ → ℕ → Answer (Item × ℕ)
item_step s at = do
  need (ltb at (length s)) 25 0 0
  need (not (eqb (get_or s at 0) 0)) 25 0 0
  x ← read_item (drop at s)
  ok (x.0, at + length (item_bytes x.0))

-- ---- any walk: what a step gave, the walk after it, and the walk after i steps

module _ {A W : Type 0} where
  abbrev pub gave : Answer (A × W) → Answer A
  gave (ok x) = ok x.0
  gave (refused r) = refused r

  abbrev pub walk_after : W → Answer (A × W) → W
  walk_after w (ok x) = x.1
  walk_after w (refused r) = w

  abbrev pub walked : (W → Answer (A × W)) → W → ℕ → W
  walked step w zero = w
  walked step w (suc i) = walked step (walk_after w (step w)) i
