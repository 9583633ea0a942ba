use Rattle.bye.proofs.Writes.{writes}
use Rattle.bye.proofs.write.ByeBuilderRtcpPacketWriter.write_into_unchecked.Goals as goal

pub returns : goal.returns
returns c = search writes
