use Rattle.sdes.proofs.Walks.{walks}
use Rattle.sdes.proofs.sdes.ChunkWalk.open.Goals as goal

pub returns-in_err-sdes : goal.returns-in_err-sdes
returns-in_err-sdes c = search (walks, c.in_err-sdes.ensures)

pub returns : goal.returns
returns c = search (walks, c.in_ok-sdes.ensures)
