use Rattle.bye.proofs.Writes.{bye_fits}
use Rattle.bye.proofs.write.ByeBuilderRtcpPacketWriter.TheImpl.Goals as goal

-- that there is this size asks more than the method does
pub write_into_unchecked-asks : goal.write_into_unchecked-asks
write_into_unchecked-asks g c = bye_fits _ _ _ _ _ c.requires.0 c.requires.1
