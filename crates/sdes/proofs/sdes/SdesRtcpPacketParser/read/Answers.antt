use Rattle.sdes.proofs.Packets.{none_at_chunk, none_at_end}
use Rattle.sdes.proofs.sdes.SdesRtcpPacketParser.read.Goals as goal

pub returns-then-chunks-gt0 : goal.returns-then-chunks-gt0
returns-then-chunks-gt0 c = none_at_chunk _ _ c.in_ok-body.ensures _ _ c.chunks_end-chunks.ensures c.parse_count-n_chunks.ensures.0 c.if-chunks-gt0.true

pub returns-then-chunks-body : goal.returns-then-chunks-body
returns-then-chunks-body c = none_at_end _ _ c.in_ok-body.ensures _ _ c.chunks_end-chunks.ensures c.parse_count-n_chunks.ensures.0 c.if-chunks-gt0.false c.if-chunks-body.true
