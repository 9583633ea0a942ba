use Rattle.bye.proofs.Writes.{Sources}
use Rattle.bye.proofs.write.write_sources.Given as goal

abbrev pub invariant-loop-i : goal.invariant-loop-i
invariant-loop-i l = Sources l.at l.sources l.initial.buf l.i l.buf
