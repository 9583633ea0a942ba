use Rattle.chunk_write.proofs.Sizes.{Counting}
use Rattle.chunk_write.proofs.chunks.chunks_end_of_lengths_unchecked.Given as goal

abbrev pub invariant-loop-count : goal.invariant-loop-count
invariant-loop-count l = Counting l.start l.bytes_len l.counts l.items.types.now l.items.prefixes.now l.items.values.now l.count-index l.at l.left l.rest.types.now l.rest.prefixes.now l.rest.values.now
