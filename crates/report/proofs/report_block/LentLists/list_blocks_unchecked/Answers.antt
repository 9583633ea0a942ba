use Rattle.report.proofs.Blocks.{lists_laid}
use Rattle.report.proofs.report_block.LentLists.list_blocks_unchecked.Goals as goal

pub returns-clause-laid : goal.returns-clause-laid
returns-clause-laid c = lists_laid c.args.s.now c.args.at c.args.n _ _ _ _ _ _ c.if-self-n.false c.if-self-n-2.false c.if-self-n-3.false c.list_all_unchecked.ensures.listed
