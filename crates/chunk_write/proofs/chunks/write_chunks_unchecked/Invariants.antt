use Rattle.chunk_write.proofs.Laying.{Chunking}
use Rattle.chunk_write.proofs.chunks.write_chunks_unchecked.Given as goal

abbrev pub invariant-loop-k : goal.invariant-loop-k
invariant-loop-k l = Chunking l.start l.ssrcs l.counts l.items.types.now l.items.prefixes.now l.items.values.now l.items.bytes.now l.initial.buf l.k l.first l.at l.from l.buf
