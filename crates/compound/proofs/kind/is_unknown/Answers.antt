use Rattle.compound.proofs.PacketKinds.{unknown_told}
use Rattle.compound.proofs.kind.is_unknown.Goals as goal

pub returns : goal.returns
returns c = unknown_told c.args.s.now c.kind_of.result c.eq.result c.kind_of.ensures c.eq.ensures
