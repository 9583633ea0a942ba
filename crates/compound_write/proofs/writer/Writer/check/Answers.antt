use Rattle.compound_write.specs.Writer.{writer_of}
use Rattle.compound_write.proofs.Checks.{checked_over, checked_fits}
use Rattle.compound_write.proofs.writer.Writer.check.Goals as goal

pub returns-then-space-self-2 : goal.returns-then-space-self-2
returns-then-space-self-2 c =
    checked_over (writer_of c.args.self) _ _ _ c.if-self.false c.if-self-2.false _ c.may_start.ensures c.if-not-may_start.false _ c.in_ok-size.was c.if-space-self.false c.if-space-self-2.true _ c.saturating_add.ensures

pub returns : goal.returns
returns c =
    checked_fits (writer_of c.args.self) _ _ _ c.if-self.false c.if-self-2.false _ c.may_start.ensures c.if-not-may_start.false _ c.in_ok-size.was c.if-space-self.false c.if-space-self-2.false
