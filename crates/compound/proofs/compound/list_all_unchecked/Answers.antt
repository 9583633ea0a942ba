use Rattle.rfc3550.proofs.Prelude.{ℕ, ◌<◌, get_or, arith}
use Rattle.compound.proofs.Listing.{listings}
use Rattle.compound.proofs.compound.list_all_unchecked.Goals as goal

pub loop-i-init : goal.loop-i-init
loop-i-init c = let k : (i : ℕ) → get_or c.args.s.now i 0 < 256 = λ i. omega (arith, c.type_inv.s i) in
    search (listings, k)

pub list_packet_unchecked-at-requires : goal.list_packet_unchecked-at-requires
list_packet_unchecked-at-requires c = search listings

pub overflow_add-at : goal.overflow_add-at
overflow_add-at c = search listings

pub returns : goal.returns
returns c = search listings
