use Rattle.rfc3550.proofs.Prelude.{arith}
use Rattle.utils.proofs.WriterCases.{copied_twice}
use Rattle.utils.proofs.writer.copy_ends.Goals as goal

pub returns : goal.returns
returns g c = copied_twice _ _ _ (omega arith) g.row.N _ _ c.copy.ensures c.copy-2.ensures (omega arith) (omega arith)
