use Rattle.rfc3550.proofs.Prelude.{arith, length-set}
use Rattle.report.proofs.report_block.LentLists.list_block_unchecked.Goals as goal

pub bounds-self-to-2 : goal.bounds-self-to-2
bounds-self-to-2 c = simp length-set (omega arith)

pub bounds-self-to-3 : goal.bounds-self-to-3
bounds-self-to-3 c = simp length-set (omega arith)

pub bounds-self-to-4 : goal.bounds-self-to-4
bounds-self-to-4 c = simp length-set (omega arith)

pub bounds-self-to-5 : goal.bounds-self-to-5
bounds-self-to-5 c = simp length-set (omega arith)
