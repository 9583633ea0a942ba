use Rattle.rfc3550.proofs.Prelude.{arith}
use Rattle.utils.proofs.WriterCases.{copying_start, copying_again, copying_last}
use Rattle.utils.proofs.writer.write_many.Goals as goal
use Rattle.utils.proofs.writer.write_many.Goals.{else-loop-k-test, then-loop-k-test+else-last-k-gt32}

pub loop-k-init : goal.loop-k-init
loop-k-init c = copying_start _ _ _

pub loop-k-preserved : goal.loop-k-preserved
loop-k-preserved c = copying_again _ _ _ (omega arith) 32 _ _ _ c.loop-k.invariant (omega arith) c.copy_thirty_two.ensures

pub returns : goal.returns
returns c = elim c.loop-k-test.branch [
  | else-loop-k-test w ↦ copying_last _ _ _ (omega arith) 32 _ _ _ _ c.loop-k.invariant w.buf-is (omega arith) (omega arith) c.copy_thirty_two-2.ensures
  | then-loop-k-test+else-last-k-gt32 w ↦ copying_last _ _ _ (omega arith) 32 _ _ _ _ (copying_again _ _ _ (omega arith) 32 _ _ _ c.loop-k.invariant (omega arith) w.copy_thirty_two.ensures) w.buf-is (omega arith) (omega arith) c.copy_thirty_two-2.ensures
]
