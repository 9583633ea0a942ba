use Rattle.sdes_write.proofs.Names.{Testing}
use Rattle.sdes_write.proofs.cname.has_cname_unchecked.Given as goal

abbrev pub invariant-loop-i : goal.invariant-loop-i
invariant-loop-i l = Testing l.types l.values l.i
