use Rattle.rfc3550.proofs.Prelude.{rules}
use Rattle.bye.proofs.Byes.{source_scaled, source_fits, source_within}
use Rattle.bye.proofs.Bye.source.Goals as goal

pub overflow_mul-i : goal.overflow_mul-i
overflow_mul-i c = let w = source_scaled c.args.s.now _ c.in_ok-bye.ensures c.args.i c.if-bye-i.false in search rules

pub overflow_add-i : goal.overflow_add-i
overflow_add-i c = let w = source_fits c.args.s.now _ c.in_ok-bye.ensures c.args.i c.if-bye-i.false in search rules

pub u32_from_be_bytes-requires : goal.u32_from_be_bytes-requires
u32_from_be_bytes-requires c = source_within c.args.s.now _ c.in_ok-bye.ensures c.args.i c.if-bye-i.false
