use Rattle.std.proofs.Common.{rules}
use Rattle.std.proofs.lemmas.Fn.{fold_over, slice_gives, fronts}
use Rattle.rfc3550.proofs.Prelude.{◌<◌, ◌≡◌, refl, arith}
use lib.Signed.{mag}
use Rattle.rfc3550.specs.Loss.{no_loss}
use Rattle.report_write.specs.Report.{tested_loss}
use Rattle.report_write.proofs.Blocks.{tested_more}
use Rattle.report_write.proofs.report_block.tested_loss.Goals as goal

pub returns : goal.returns
unfolding tested_loss
returns c =
    let folded = fold_over fronts (λ y. y.now) _ (λ ys a. (mag a < 2147483648) × (a ≡ tested_loss no_loss ys)) _ (λ ys a x b f' j k. search (rules, tested_more)) _ _ _ _ (slice_gives c.iter.result) (omega arith, refl) c.fold.ensures.ran in
    search rules
