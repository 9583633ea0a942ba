use Rattle.sdes_lookup.proofs.Calls.{calls, call_short, call_refused, call_count, call_least, call_chunks, call_done}
use Rattle.sdes_lookup.proofs.lookup.Goals as goal

pub returns-then-answers-ssrcs : goal.returns-then-answers-ssrcs
returns-then-answers-ssrcs c = call_short _ _ _ c.if-answers-ssrcs.true

pub returns-in_err-sdes : goal.returns-in_err-sdes
returns-in_err-sdes c = call_refused _ _ _ c.if-answers-ssrcs.false _ _ c.from_residual.ensures.1 c.in_err-sdes.ensures

pub slice_bounds-answer_all-end : goal.slice_bounds-answer_all-end
slice_bounds-answer_all-end c = search (calls, c.in_ok-sdes.ensures)

pub answer_all-requires : goal.answer_all-requires
answer_all-requires c =
    let e = c.in_ok-sdes.ensures in
    (call_count _ _ e, c.if-answers-ssrcs.false, call_least _ _ e, call_chunks _ _ e)

pub returns : goal.returns
returns c = call_done _ _ c.in_ok-sdes.ensures _ _ c.if-answers-ssrcs.false _ _ c.answer_all.ensures
