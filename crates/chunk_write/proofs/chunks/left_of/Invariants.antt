use Rattle.chunk_write.proofs.Sizes.{Summing}
use Rattle.chunk_write.proofs.chunks.left_of.Given as goal

abbrev pub invariant-loop-x : goal.invariant-loop-x
invariant-loop-x l = Summing l.xs l.total l.x-index l.left
