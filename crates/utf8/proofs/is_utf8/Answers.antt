use Rattle.rfc3550.proofs.Prelude.{◌∙◌, rules}
use Rattle.utf8.proofs.Texts.{ascii_is, text_is}
use Rattle.utf8.proofs.is_utf8.Goals as goal

pub returns-then-is_ascii : goal.returns-then-is_ascii
returns-then-is_ascii c = search (rules, ascii_is)

pub returns-else-is_ascii : goal.returns-else-is_ascii
returns-else-is_ascii c = c.is_ok.ensures.value ∙ text_is _ _ _ _ c.from_utf8.ensures.cases
