use Rattle.utils.proofs.WriterCases.{Copying}
use Rattle.utils.proofs.writer.write_many.Given as goal

abbrev pub invariant-loop-k : goal.invariant-loop-k
invariant-loop-k l = Copying l.at l.src l.initial.buf l.buf l.k
