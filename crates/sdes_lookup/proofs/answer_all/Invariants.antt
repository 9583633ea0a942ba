use Rattle.sdes_lookup.proofs.Passes.{Passing}
use Rattle.sdes_lookup.proofs.answer_all.Given as goal

abbrev pub invariant-loop-k : goal.invariant-loop-k
invariant-loop-k l = Passing l.n_chunks l.body l.ssrcs l.initial.answers l.unanswered l.rest l.k l.answers
