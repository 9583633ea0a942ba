use Rattle.rfc3550.proofs.Prelude.{rules}
use Rattle.sdes_lookup.proofs.Passes.{passes, pass_start, pass_some, pass_inside, pass_answered, pass_ended}
use Rattle.sdes_lookup.proofs.answer_all.Goals as goal

pub loop-k-init : goal.loop-k-init
loop-k-init c = pass_start _ c.args.answers.now _ (search rules) _ _ c.requires.0 (search rules) c.requires.3 (search rules)

pub returns-then-unanswered-eq0 : goal.returns-then-unanswered-eq0
returns-then-unanswered-eq0 c = pass_answered _ _ _ _ _ _ _ _ c.loop-k.invariant c.args.answers.now (search rules) c.if-unanswered-eq0.true

pub unwrap-chunk-requires : goal.unwrap-chunk-requires
unwrap-chunk-requires c = pass_some _ _ _ _ _ _ _ _ c.loop-k.invariant c.loop-k-test.true _ c.read.ensures

pub slice_bounds-rest-count-in-loop-k : goal.slice_bounds-rest-count-in-loop-k
slice_bounds-rest-count-in-loop-k c = pass_inside _ _ _ _ _ _ _ _ c.loop-k.invariant c.loop-k-test.true _ c.read.ensures _ c.unwrap-chunk.ensures

pub slice_bounds-rest-start-in-loop-k : goal.slice_bounds-rest-start-in-loop-k
slice_bounds-rest-start-in-loop-k c = pass_inside _ _ _ _ _ _ _ _ c.loop-k.invariant c.loop-k-test.true _ c.read.ensures _ c.unwrap-chunk.ensures

pub loop-k-preserved : goal.loop-k-preserved
loop-k-preserved c = search passes

pub returns : goal.returns
returns c = pass_ended _ _ _ _ _ _ _ _ c.loop-k.invariant c.args.answers.now (search rules) c.loop-k-test.false
