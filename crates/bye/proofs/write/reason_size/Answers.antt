use Rattle.bye.proofs.Writes.{reason_long}
use Rattle.bye.proofs.write.reason_size.Goals as goal

pub returns : goal.returns
returns c = reason_long c.args.reason.now c.requires c.if-len-eq0.false
