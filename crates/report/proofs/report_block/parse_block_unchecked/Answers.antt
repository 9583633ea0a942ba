use native.Mathlib.Omega.{arith}
use Rattle.report.proofs.Blocks.{blocks, block_is_lem}
use Rattle.report.proofs.report_block.parse_block_unchecked.Goals as goal

pub returns : goal.returns
returns c = let known = c in
    block_is_lem known.args.s.now known.args.at _ _ _ _ _ _ _ (λ i. omega (arith, known.type_inv.s i)) (search blocks) (search blocks) (search blocks) (search blocks) (search blocks) (search blocks) (search blocks) (search blocks)
