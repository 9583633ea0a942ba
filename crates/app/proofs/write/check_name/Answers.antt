use Rattle.std.proofs.Common.{rules}
use Rattle.std.proofs.lemmas.Iterator.{YieldsList-from_slice}
use Rattle.std.proofs.lemmas.Iterator.Search.{all_from_yields_List}
use borrow.Author.Tests.{tests}
use Rattle.rfc3550.proofs.Prelude.{arith, leb}
use Rattle.app.proofs.Writes.{name_short}
use Rattle.app.proofs.write.check_name.Goals as goal

pub returns : goal.returns
returns c =
    name_short c.args.name.now c.all.result (omega arith)
    (all_from_yields_List (λ b. leb b 127) c.all.new.self _ _ c.all.ensures.ran (YieldsList-from_slice c.args.name.now cc) (λ x b q k. search (rules, tests)))
