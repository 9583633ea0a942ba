use Rattle.sdes_chunk.proofs.Chunks.{Closing}
use Rattle.sdes_chunk.proofs.chunk.zeros_end.Given as goal

abbrev pub invariant-loop-at : goal.invariant-loop-at
invariant-loop-at l = Closing l.chunk l.from l.end l.at
