use Rattle.rfc3550.proofs.Prelude.{arith, length-set}
use Rattle.sdes.proofs.items.write_row.Goals as goal

pub bounds-rows-i-2 : goal.bounds-rows-i-2
bounds-rows-i-2 c = simp length-set (omega arith)

pub bounds-rows-i-3 : goal.bounds-rows-i-3
bounds-rows-i-3 c = simp length-set (omega arith)

pub bounds-rows-i-4 : goal.bounds-rows-i-4
bounds-rows-i-4 c = simp length-set (omega arith)

pub bounds-rows-i-5 : goal.bounds-rows-i-5
bounds-rows-i-5 c = simp length-set (omega arith)
