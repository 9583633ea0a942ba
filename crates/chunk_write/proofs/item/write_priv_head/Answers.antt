use Rattle.rfc3550.proofs.Prelude.{length-set, arith}
use Rattle.chunk_write.proofs.item.write_priv_head.Goals as goal

pub bounds-buf-1 : goal.bounds-buf-1
bounds-buf-1 c = simp length-set (omega arith)

pub bounds-buf-2 : goal.bounds-buf-2
bounds-buf-2 c = simp length-set (omega arith)
