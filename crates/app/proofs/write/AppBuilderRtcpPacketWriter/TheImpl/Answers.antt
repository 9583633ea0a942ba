use Rattle.app.proofs.Writes.{app_fits}
use Rattle.app.proofs.write.AppBuilderRtcpPacketWriter.TheImpl.Goals as goal

-- that there is this size asks more than the method does
pub write_into_unchecked-asks : goal.write_into_unchecked-asks
write_into_unchecked-asks g c = app_fits _ _ _ _ _ _ _ c.requires.0 c.requires.1
