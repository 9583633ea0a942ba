use Rattle.rtcp.proofs.Datagrams.{sr_some, rr_some, app_some, unknown_some}
use Rattle.rtcp.proofs.read_compound.PacketNumbers.read.Goals as goal

pub returns-in_ok-read-in-Sr : goal.returns-in_ok-read-in-Sr
returns-in_ok-read-in-Sr c = sr_some c.args.s.now _ c.kind_of.ensures c.in-Sr.is _ _ c.in_ok-read-in-Sr.ensures c.from.ensures

pub returns-in_ok-read-in-Rr : goal.returns-in_ok-read-in-Rr
returns-in_ok-read-in-Rr c = rr_some c.args.s.now _ c.kind_of.ensures c.in-Rr.is _ _ c.in_ok-read-in-Rr.ensures c.from-in-Rr.ensures

pub returns-in_ok-read-in-App : goal.returns-in_ok-read-in-App
returns-in_ok-read-in-App c = app_some c.args.s.now _ c.kind_of.ensures c.in-App.is _ _ c.in_ok-read-in-App.ensures c.from-in-App.ensures

pub returns-in_ok-read-in-Unknown : goal.returns-in_ok-read-in-Unknown
returns-in_ok-read-in-Unknown c = unknown_some c.args.s.now _ c.kind_of.ensures c.in-Unknown.is _ _ c.in_ok-read-in-Unknown.ensures c.from-in-Unknown.ensures
