use Rattle.sdes.proofs.ItemTurns.{rows}
use Rattle.sdes.proofs.items.lay_rows.Goals as goal

pub returns : goal.returns
returns c = search rows
