use Rattle.chunk_write.proofs.Sizes.{Ending}
use Rattle.chunk_write.proofs.chunks.items_end.Given as goal

abbrev pub invariant-loop-i : goal.invariant-loop-i
invariant-loop-i l = Ending l.at l.bytes_left l.items.types.now l.items.prefixes.now l.items.values.now l.i l.end l.left
