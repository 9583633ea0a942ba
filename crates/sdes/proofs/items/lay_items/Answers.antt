use Rattle.sdes.proofs.ItemTurns.{items_zero, items_again}
use Rattle.sdes.proofs.ItemPlaces.{item_less}
use Rattle.sdes.proofs.items.lay_items.Goals as goal

pub returns-in_default : goal.returns-in_default
returns-in_default c = (items_zero _ _ _ _ _ _ _ c.loop-end.invariant c.in_default.ensures, c.loop-end.invariant)

pub loop-end-smaller : goal.loop-end-smaller
loop-end-smaller c = item_less c.args.body.bytes.now c.loop-end.next.place _ c.in-Some.ensures

pub loop-end-preserved : goal.loop-end-preserved
loop-end-preserved c = items_again _ _ _ _ _ _ _ c.loop-end.invariant _ c.in-Some.ensures _ _ c.item_row.ensures c.write_row.ensures
