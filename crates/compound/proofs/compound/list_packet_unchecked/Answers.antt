use Rattle.rfc3550.proofs.Prelude.{arith, length-set}
use Rattle.compound.proofs.compound.list_packet_unchecked.Goals as goal

pub bounds-list-to-2 : goal.bounds-list-to-2
bounds-list-to-2 c = simp length-set (omega arith)

pub bounds-list-to-3 : goal.bounds-list-to-3
bounds-list-to-3 c = simp length-set (omega arith)
