use Rattle.chunk_write.proofs.Sizes.{counting}
use Rattle.rfc3550.proofs.Prelude.{refl, ◌∙◌}
use Rattle.chunk_write.proofs.Sizes.{first_end, counting_refused, counting_end, counting_again}
use Rattle.chunk_write.proofs.chunks.chunks_end_of_lengths_unchecked.Goals as goal

pub returns-in_err-here : goal.returns-in_err-here
returns-in_err-here c =
    rw c.from_residual.ensures
    (counting_refused _ _ _ _ _ _ c.requires _ _ _ _ _ _ c.loop-count.invariant c.args.limit c.loop-count-test.true _ refl (c.in_err-here.ensures ∙ first_end _ _ _ _ _ c.first_unchecked.ensures))

pub word_boundary_unchecked-at-requires : goal.word_boundary_unchecked-at-requires
word_boundary_unchecked-at-requires c =
    counting_end _ _ _ _ _ _ c.requires _ _ _ _ _ _ c.loop-count.invariant c.args.limit c.loop-count-test.true _ refl c.if-rest-c.false _ (c.in_ok-here.ensures ∙ first_end _ _ _ _ _ c.first_unchecked.ensures)

pub loop-count-preserved : goal.loop-count-preserved
loop-count-preserved c =
    let after = c.after_unchecked-rest.ensures in
    rw (after.types, after.prefixes, after.values)
    (counting_again _ _ _ _ _ _ c.requires _ _ _ _ _ _ c.loop-count.invariant c.args.limit c.loop-count-test.true _ refl c.if-rest-c.false _ (c.in_ok-here.ensures ∙ first_end _ _ _ _ _ c.first_unchecked.ensures) _ c.word_boundary_unchecked-at.ensures)

pub returns-then-rest-c : goal.returns-then-rest-c
returns-then-rest-c c = search counting

pub returns-then-left-ne0 : goal.returns-then-left-ne0
returns-then-left-ne0 c = search counting

pub returns-then-limit-at : goal.returns-then-limit-at
returns-then-limit-at c = search counting

pub returns : goal.returns
returns c = search counting
