use Rattle.sdes_write.specs.Packets.{lists_in}
use Rattle.sdes_write.proofs.Names.{values_agree, names_given}
use Rattle.sdes_write.proofs.SdesBuilderRtcpPacketWriter.has_cname.Goals as goal

pub has_cname_unchecked-requires : goal.has_cname_unchecked-requires
has_cname_unchecked-requires c = let s = c.args.self in values_agree (lists_in s) s.padding c.requires

pub returns : goal.returns
returns c = let s = c.args.self in names_given (lists_in s) s.padding c.requires _ c.has_cname_unchecked.ensures
