use Rattle.rfc3550.proofs.Prelude.{◌<◌, ◌^◌, length, arith}
use Rattle.rtcp.proofs.Descriptions.{step_order, step_fits}
use Rattle.rtcp.proofs.read_sdes.rtcp_item_walk_step.Goals as goal

pub of-parts-requires : goal.of-parts-requires
of-parts-requires c =
    let l : length c.args.s.now < 2 ^ 64 = omega arith in
    let i = c.in-Ok.item in
    let w = c.in-Ok.next in
    (step_order _ i w _ _ c.in-Ok.is c.step.ensures, step_fits _ i w _ _ c.in-Ok.is c.step.ensures l)
