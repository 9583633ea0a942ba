use Rattle.sdes_chunk.proofs.Chunks.{Running}
use Rattle.sdes_chunk.proofs.chunk.chunks_end.Given as goal

abbrev pub invariant-loop-after : goal.invariant-loop-after
invariant-loop-after l = Running l.rest l.n l.at l.after l.cname
