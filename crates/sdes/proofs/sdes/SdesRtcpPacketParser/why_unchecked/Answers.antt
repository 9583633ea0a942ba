use Rattle.rfc3550.proofs.Prelude.{rules, arith}
use Rattle.sdes.proofs.Packets.{chunks_inside, chunks_fit, why_at_end}
use Rattle.sdes.proofs.sdes.SdesRtcpPacketParser.why_unchecked.Goals as goal

pub slice_bounds-why_unchecked-count : goal.slice_bounds-why_unchecked-count
slice_bounds-why_unchecked-count c = chunks_inside _ _ c.in-Some.ensures _ _ c.chunks_end-chunks.ensures c.parse_count-n_chunks.ensures.0

pub slice_bounds-why_unchecked-start : goal.slice_bounds-why_unchecked-start
slice_bounds-why_unchecked-start c = chunks_inside _ _ c.in-Some.ensures _ _ c.chunks_end-chunks.ensures c.parse_count-n_chunks.ensures.0

pub overflow_add-result : goal.overflow_add-result
overflow_add-result c = let start = c in
    let known = chunks_fit _ _ start.in-Some.ensures _ _ start.chunks_end-chunks.ensures start.parse_count-n_chunks.ensures.0 (search rules) in
    omega arith

pub returns : goal.returns
returns c = why_at_end _ _ c.in-Some.ensures _ _ c.chunks_end-chunks.ensures c.parse_count-n_chunks.ensures.0 c.if-chunks-gt0.false c.requires
