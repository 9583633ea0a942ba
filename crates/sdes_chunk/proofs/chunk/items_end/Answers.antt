use Rattle.rfc3550.proofs.Prelude.{rules}
use Rattle.sdes_chunk.proofs.Chunks.{items_halt, items_after, items_two, items_less, items_rest}
use Rattle.sdes_chunk.proofs.chunk.items_end.Goals as goal

pub overflow_sub-end : goal.overflow_sub-end
overflow_sub-end c = items_after _ _ _ _ c.loop-at.invariant _ c.in-Some.ensures

pub overflow_sub-end-in-loop-at : goal.overflow_sub-end-in-loop-at
overflow_sub-end-in-loop-at c = items_two _ _ _ _ c.loop-at.invariant _ c.in-Some.ensures

pub returns-in_default : goal.returns-in_default
returns-in_default c = items_halt _ _ _ _ c.loop-at.invariant c.in_default.ensures _ (search rules) (search rules) (search rules)

pub loop-at-smaller : goal.loop-at-smaller
loop-at-smaller c = items_less _ _ _ _ c.loop-at.invariant _ c.in-Some.ensures

pub returns : goal.returns
returns c = items_rest _ _ _ _ c.loop-at.invariant _ c.loop-at-test.false c.zero_at-closed.ensures
