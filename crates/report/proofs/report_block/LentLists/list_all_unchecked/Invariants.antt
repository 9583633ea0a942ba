use Rattle.report.specs.Lists.{SameLists}
use Rattle.report.proofs.Blocks.{Listing}
use Rattle.report.proofs.report_block.LentLists.list_all_unchecked.Given as goal

abbrev pub invariant-loop-i : goal.invariant-loop-i
invariant-loop-i l = record { same : SameLists l.initial.self l.self; laid : Listing l.s l.at l.n l.initial.self.fractions.now l.initial.self.losses.now l.initial.self.words.now l.i l.self.fractions.now l.self.losses.now l.self.words.now }
