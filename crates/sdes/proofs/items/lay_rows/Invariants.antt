use Rattle.rfc3550.proofs.Prelude.{◌-◌, length}
use Rattle.sdes.specs.ItemPlaces.{chunk_place, LaidUpTo}
use Rattle.sdes.proofs.items.lay_rows.Given as goal

abbrev pub invariant-loop-next : goal.invariant-loop-next
invariant-loop-next l = LaidUpTo l.body.bytes.now (chunk_place l.body.bytes.now 4) 0 l.initial.rows l.next.place l.next.i l.rows

abbrev pub decreases-loop-next : goal.decreases-loop-next
decreases-loop-next l = length l.body.bytes.now - l.next.place.at
