use Rattle.std.proofs.Common.{rules}
use Rattle.std.proofs.lemmas.Fn.{fold_over, slice_gives, fronts}
use Rattle.rfc3550.proofs.Prelude.{◌<◌, ◌≡◌, refl, arith}
use lib.Signed.{mag}
use Rattle.rfc3550.specs.Loss.{no_loss}
use Rattle.report_write.specs.Report.{tested_loss}
use Rattle.records.specs.Records.{tested_of}
use Rattle.records.proofs.Reports.{loss_more}
use Rattle.records.proofs.tested_loss.Goals as goal

pub returns : goal.returns
unfolding tested_loss
returns c =
    let folded = fold_over fronts (λ y. y.now) _ (λ bs a. (mag a < 2147483648) × (a ≡ tested_of no_loss bs)) _ (λ bs a b r f' j k. search (rules, loss_more)) _ _ _ _ (slice_gives c.iter.result) (omega arith, refl) c.fold.ensures.ran in
    search rules
