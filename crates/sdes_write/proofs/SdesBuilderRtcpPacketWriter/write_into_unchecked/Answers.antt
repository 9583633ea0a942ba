use Rattle.sdes_write.proofs.Packets.{sdess}
use Rattle.sdes_write.proofs.SdesBuilderRtcpPacketWriter.write_into_unchecked.Goals as goal

pub returns : goal.returns
returns c = search sdess
