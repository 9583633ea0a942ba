use Rattle.rtcp.proofs.Datagrams.{datagrams, walk_refused}
use Rattle.rtcp.proofs.read_compound.rtcp_walk_step.Goals as goal

pub returns-in_default : goal.returns-in_default
returns-in_default c = search datagrams

pub returns-in_default-read : goal.returns-in_default-read
returns-in_default-read c = walk_refused c.args.s.now c.args.at _ c.in-Some.ensures _ _ _ c.coded-in_default-read.ensures c.from-in_default-read.ensures c.why_unchecked-why.ensures
