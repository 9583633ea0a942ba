use Rattle.sdes_write.proofs.Packets.{why_padding}
use Rattle.sdes_write.proofs.SdesBuilderRtcpPacketWriter.why_size_unchecked.Goals as goal

pub returns-then-not-check_padding : goal.returns-then-not-check_padding
returns-then-not-check_padding c = let a = c.args.self in
    why_padding a.ssrcs.now a.counts.now a.items.types.now a.items.prefixes.now a.items.values.now a.items.bytes.now a.padding c.if-count-gt-MAX_COUNT.false c.check_padding.result c.check_padding.ensures c.lists_agree.result c.lists_agree.ensures c.if-not-lists_agree.false c.if-not-check_padding.true
