use Rattle.rfc3550.proofs.Prelude.{ℕ, ◌<◌, get_or, arith}
use Rattle.compound.proofs.Listing.{listings}
use Rattle.compound.proofs.compound.Compound.packets.Goals as goal

pub overflow_mul-len : goal.overflow_mul-len
overflow_mul-len c = let k : (i : ℕ) → get_or c.args.s.now i 0 < 256 = λ i. omega (arith, c.type_inv.s i) in
    search (listings, k)
