use Rattle.rfc3550.proofs.Prelude.{◌-◌, length}
use Rattle.sdes.proofs.ItemTurns.{Counting}
use Rattle.sdes.proofs.items.count_rows.Given as goal

abbrev pub invariant-loop-place : goal.invariant-loop-place
invariant-loop-place l = Counting l.body.bytes.now l.n l.place

abbrev pub decreases-loop-place : goal.decreases-loop-place
decreases-loop-place l = length l.body.bytes.now - l.place.at
