use Rattle.sdes_lookup.proofs.Marks.{Marking}
use Rattle.sdes_lookup.proofs.mark.Given as goal

abbrev pub invariant-loop-i : goal.invariant-loop-i
invariant-loop-i l = Marking l.k l.ssrc l.ssrcs l.initial.answers l.i l.left l.answers
