use Rattle.report_write.proofs.Reports.{reports}
use Rattle.report_write.proofs.builder.ReportBuilderRtcpPacketWriter.write_into_unchecked.Goals as goal

pub returns : goal.returns
returns g c = search reports
