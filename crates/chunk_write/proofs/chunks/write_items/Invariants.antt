use Rattle.chunk_write.proofs.Laying.{LayingPart}
use Rattle.chunk_write.proofs.chunks.write_items.Given as goal

abbrev pub invariant-loop-i : goal.invariant-loop-i
invariant-loop-i l = LayingPart l.to l.items.types.now l.items.prefixes.now l.items.values.now l.items.bytes.now l.initial.buf l.fn.range.first l.fn.range.last l.fn.range.from l.i l.end l.taken l.buf
