use Rattle.rfc3550.proofs.Prelude.{◌-◌, length}
use Rattle.sdes_chunk.proofs.Chunks.{Going}
use Rattle.sdes_chunk.proofs.chunk.items_end.Given as goal

abbrev pub invariant-loop-at : goal.invariant-loop-at
invariant-loop-at l = Going l.chunk l.fn.known l.at l.cname

abbrev pub decreases-loop-at : goal.decreases-loop-at
decreases-loop-at l = length l.chunk - l.at
