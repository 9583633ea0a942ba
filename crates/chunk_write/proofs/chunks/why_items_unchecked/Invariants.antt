use Rattle.chunk_write.proofs.Sizes.{Asking}
use Rattle.chunk_write.proofs.chunks.why_items_unchecked.Given as goal

abbrev pub invariant-loop-i : goal.invariant-loop-i
invariant-loop-i l = Asking l.items.types.now l.items.prefixes.now l.items.values.now l.i
