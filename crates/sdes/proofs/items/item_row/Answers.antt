use Rattle.sdes.proofs.ItemPlaces.{item_bound, row_value}
use native.Mathlib.Omega.{arith}
use Rattle.sdes.proofs.items.item_row.Goals as goal

pub overflow_add-result : goal.overflow_add-result
overflow_add-result c = let start = c in
    let known = item_bound _ start.args.place start.requires start.args.body.short in
    omega arith

pub overflow_cast-result-then-type_-ne-PRIV : goal.overflow_cast-result-then-type_-ne-PRIV
overflow_cast-result-then-type_-ne-PRIV c = let start = c in
    let known = item_bound _ start.args.place start.requires start.args.body.short in
    omega arith

pub overflow_add-result-2 : goal.overflow_add-result-2
overflow_add-result-2 c = let start = c in
    let known = item_bound _ start.args.place start.requires start.args.body.short in
    omega arith

pub overflow_add-result-3 : goal.overflow_add-result-3
overflow_add-result-3 c = let start = c in
    let known = row_value _ start.args.place start.requires _ c.item_of_unchecked-item.ensures start.args.body.short c.if-type_-ne-PRIV.false in
    omega arith
