use Rattle.sdes_write.proofs.Packets.{sdes_fits}
use Rattle.sdes_write.proofs.SdesBuilderRtcpPacketWriter.TheImpl.Goals as goal

-- that there is this size asks more than the method does
pub write_into_unchecked-asks : goal.write_into_unchecked-asks
write_into_unchecked-asks g c = sdes_fits _ _ _ _ _ _ _ _ _ c.requires.0 c.requires.1
