use Rattle.rfc3550.proofs.Prelude.{arith}
use Rattle.utils.proofs.WriterPackets.{padding_most}
use Rattle.app.proofs.write.AppBuilderRtcpPacketWriter.size_of.Goals as goal

pub overflow_add-size-2 : goal.overflow_add-size-2
overflow_add-size-2 c = omega (arith, padding_most c.check_padding.result c.args.self.padding c.check_padding.ensures c.if-not-check_padding.false)
