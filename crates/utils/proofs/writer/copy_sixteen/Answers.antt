use Rattle.rfc3550.proofs.Prelude.{arith, refl}
use Rattle.utils.proofs.WriterCases.{copied_on}
use Rattle.utils.proofs.writer.copy_sixteen.Goals as goal

pub returns : goal.returns
returns c = copied_on _ _ _ (omega arith) 8 _ _ _ _ refl (omega arith) c.copy.ensures c.copy-2.ensures
