use Rattle.rfc3550.proofs.Prelude.{sym, ◌∙◌}
use Rattle.compound_write.specs.Writer.{writer_of}
use Rattle.compound_write.proofs.Writers.{refused_known, add_refused, admitted_size, admitted_own, admitted_part, add_done}
use Rattle.compound_write.proofs.writer.Writer.add.Goals as goal

pub why_unchecked-requires : goal.why_unchecked-requires
why_unchecked-requires g c = refused_known (writer_of c.args.self) _ _ (sym c.in_default.is ∙ c.admit.ensures)

pub returns-in_default : goal.returns-in_default
returns-in_default g c = add_refused _ (writer_of c.args.self) _ _ _ _ c.why_unchecked.ensures c.refuse.ensures

pub write_into_unchecked-requires : goal.write_into_unchecked-requires
write_into_unchecked-requires g c = let told = sym c.in-Some.is ∙ c.admit.ensures in (admitted_size _ (writer_of c.args.self) _ _ told, admitted_part _ (writer_of c.args.self) _ _ told)

pub has_cname-requires : goal.has_cname-requires
has_cname-requires g c = admitted_own _ (writer_of c.args.self) _ _ (sym c.in-Some.is ∙ c.admit.ensures)

pub returns : goal.returns
returns g c = add_done _ (writer_of c.args.self) _ _ (sym c.in-Some.is ∙ c.admit.ensures) _ _ _ _ _ c.advance_unchecked.ensures c.padding.ensures c.has_cname.ensures c.write_into_unchecked.ensures
