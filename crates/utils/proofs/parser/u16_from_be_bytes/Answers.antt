use Rattle.utils.proofs.Numbers.{number_read}
use borrow.Author.Rules.{rules}
use Rattle.utils.proofs.parser.u16_from_be_bytes.Goals as goal

pub returns : goal.returns
returns c = search (rules, number_read 1)
