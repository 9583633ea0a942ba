use Rattle.rfc3550.proofs.Prelude.{arith}
use Rattle.utils.proofs.WriterPackets.{padding_most}
use Rattle.bye.proofs.write.ByeBuilderRtcpPacketWriter.size_of.Goals as goal

pub overflow_add-result : goal.overflow_add-result
overflow_add-result c = omega (arith, padding_most c.check_padding.result c.args.self.padding c.check_padding.ensures c.if-not-check_padding.false)
