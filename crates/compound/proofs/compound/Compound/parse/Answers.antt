use Rattle.rfc3550.proofs.Prelude.{◌<◌, length, arith}
use Rattle.compound.proofs.Compounds.{loop_again}
use Rattle.compound.proofs.compound.Compound.parse.Goals as goal

pub loop-at-preserved : goal.loop-at-preserved
loop-at-preserved c =
    let h : c.loop-at.at < length c.args.s.now = omega arith in
    loop_again _ _ _ _ c.loop-at.invariant h _ _ c.in_ok-cname.ensures
