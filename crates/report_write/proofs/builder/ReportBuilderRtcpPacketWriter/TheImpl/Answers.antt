use Rattle.report_write.proofs.Reports.{sized_fits}
use Rattle.report_write.proofs.builder.ReportBuilderRtcpPacketWriter.TheImpl.Goals as goal

-- that there is this size asks more than the method does
pub write_into_unchecked-asks : goal.write_into_unchecked-asks
write_into_unchecked-asks g c = sized_fits _ _ _ _ _ c.requires.0 c.requires.1
