use Rattle.rfc3550.proofs.Prelude.{length-set, arith}
use Rattle.chunk_write.proofs.item.write_other_unchecked.Goals as goal

pub bounds-buf-1 : goal.bounds-buf-1
bounds-buf-1 c = simp length-set (omega arith)
