use Rattle.rfc3550.proofs.Prelude.{arith, refl}
use Rattle.utils.proofs.WriterCases.{copied_on}
use Rattle.utils.proofs.writer.copy_thirty_two.Goals as goal

pub returns : goal.returns
returns c = copied_on _ _ _ (omega arith) 16 _ _ _ _ refl (omega arith) c.copy_sixteen.ensures c.copy_sixteen-2.ensures
