use Rattle.rfc3550.proofs.Prelude.{◌-◌, length}
use Rattle.sdes.specs.ItemPlaces.{ItemsLaid}
use Rattle.sdes.proofs.items.lay_items.Given as goal

abbrev pub invariant-loop-end : goal.invariant-loop-end
invariant-loop-end l = ItemsLaid l.body.bytes.now l.fn.first.place l.fn.first.i l.initial.rows l.next.place l.next.i l.rows

abbrev pub decreases-loop-end : goal.decreases-loop-end
decreases-loop-end l = length l.body.bytes.now - l.next.place.at
