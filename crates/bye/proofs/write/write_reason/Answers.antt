use Rattle.rfc3550.proofs.Prelude.{length-set, arith}
use Rattle.bye.proofs.Writes.{reason_some}
use Rattle.bye.proofs.write.write_reason.Goals as goal

pub bounds-buf-at : goal.bounds-buf-at
bounds-buf-at c = let m = reason_some c.args.reason.now c.if-len-eq0.false in omega arith

pub write_bytes_unchecked-requires : goal.write_bytes_unchecked-requires
write_bytes_unchecked-requires c = let m = reason_some c.args.reason.now c.if-len-eq0.false in simp length-set (omega arith)

pub write_zeros_unchecked-requires : goal.write_zeros_unchecked-requires
write_zeros_unchecked-requires c = let m = reason_some c.args.reason.now c.if-len-eq0.false in
    let k = simp length-set at c.write_bytes_unchecked.auto.buf in
    omega arith
