use Rattle.sdes.proofs.ItemTurns.{rows, count_done}
use Rattle.sdes.proofs.items.count_rows.Goals as goal

pub returns : goal.returns
returns c = count_done _ _ _ c.loop-place.invariant c.args.body.short c.loop-place-test.false

pub after-place-requires : goal.after-place-requires
after-place-requires c = search rows

pub overflow_add-n : goal.overflow_add-n
overflow_add-n c = search rows

pub loop-place-smaller : goal.loop-place-smaller
loop-place-smaller c = search rows
