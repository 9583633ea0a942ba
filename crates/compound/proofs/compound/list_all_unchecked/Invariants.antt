use Rattle.rfc3550.proofs.Prelude.{◌*◌, ◌≤◌, length}
use Rattle.compound.proofs.Listing.{Rows}
use Rattle.compound.proofs.compound.list_all_unchecked.Given as goal

abbrev pub invariant-loop-i : goal.invariant-loop-i
invariant-loop-i l = (l.fn.compound.n_packets * 3 ≤ length l.initial.list) × Rows l.s l.fn.compound.n_packets l.initial.list l.at l.i l.list
