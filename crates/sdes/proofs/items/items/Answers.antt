use Rattle.rfc3550.proofs.Prelude.{ℕ, ◌<◌, arith, refl, get_or}
use Rattle.sdes.proofs.ItemTurns.{items_most, items_rows, items_laid}
use Rattle.sdes.proofs.items.items.Goals as goal

pub invariant_of-body : goal.invariant_of-body
invariant_of-body c = let q = c in
    let known : (i : ℕ) → get_or q.args.s.now i 0 < 256 = λ i. omega (arith, q.type_inv.s i) in
    record { short = items_most _ _ q.in_ok-sdes.ensures known }

pub needed-requires : goal.needed-requires
needed-requires c = items_rows _ _ c.in_ok-sdes.ensures

pub lay_rows-requires : goal.lay_rows-requires
lay_rows-requires c = let w = c.in_default.ensures in
    record { n = w.n; rows = w.rows; fits = omega (arith, w.enough refl) }

pub returns : goal.returns
returns c = items_laid _ _ c.in_ok-sdes.ensures _ c.in_default.ensures _ _ c.lay_rows.ensures
