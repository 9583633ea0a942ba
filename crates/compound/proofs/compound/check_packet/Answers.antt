use Rattle.compound.proofs.Compounds.{frames}
use Rattle.compound.proofs.compound.check_packet.Goals as goal

pub returns : goal.returns
returns c = search frames
