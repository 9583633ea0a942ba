use Rattle.sdes_lookup.proofs.Marks.{mark_new, mark_stands, mark_other, mark_done}
use Rattle.sdes_lookup.proofs.mark.Goals as goal
use Rattle.sdes_lookup.proofs.mark.Goals.{then-named-ssrc+then-answers-i, else-named-ssrc, else-named-ssrc-via-then-named-ssrc+else-answers-i, else-named-ssrc-via-else-named-ssrc}

pub loop-i-preserved : goal.loop-i-preserved
loop-i-preserved c =
    let inv = c.loop-i.invariant in
    let h = c.loop-i-test.true in
    elim c.if-named-ssrc.branch [
      | then-named-ssrc+then-answers-i w ↦ mark_new _ _ _ _ _ _ _ inv h w.if-answers-i.true _ _ w.if-named-ssrc.true w.answers-is w.left-is
      | else-named-ssrc w ↦ elim w.else-named-ssrc.branch [
        | else-named-ssrc-via-then-named-ssrc+else-answers-i v ↦ mark_stands _ _ _ _ _ _ _ inv h _ _ v.if-named-ssrc.true v.if-answers-i.false w.answers-is w.left-is
        | else-named-ssrc-via-else-named-ssrc v ↦ mark_other _ _ _ _ _ _ _ inv h _ _ v.if-named-ssrc.false w.answers-is w.left-is
      ]
    ]

pub returns : goal.returns
returns c = mark_done _ _ _ _ _ _ _ c.loop-i.invariant c.loop-i-test.false
