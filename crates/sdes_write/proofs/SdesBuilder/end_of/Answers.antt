use Rattle.utils.proofs.WriterPackets.{padding_most}
use Rattle.rfc3550.proofs.Prelude.{arith}
use Rattle.sdes_write.proofs.SdesBuilder.end_of.Goals as goal

pub overflow_sub-self : goal.overflow_sub-self
overflow_sub-self c = omega (arith, padding_most c.check_padding.result c.args.self.padding c.check_padding.ensures c.if-not-check_padding.false)
