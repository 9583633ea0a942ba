use Rattle.rfc3550.proofs.Prelude.{arith}
use Rattle.utils.proofs.WriterCases.{copied_twice}
use Rattle.utils.proofs.writer.write_bytes_unchecked.Goals as goal

pub returns-then-n-le32 : goal.returns-then-n-le32
returns-then-n-le32 c = copied_twice _ _ _ (omega arith) 16 _ _ c.copy_sixteen.ensures c.copy_sixteen-then-n-le32.ensures (omega arith) (omega arith)
