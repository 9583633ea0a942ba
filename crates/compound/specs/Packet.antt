-- What the code hands over of a packet of any kind: its kind's fields, as functions of the packet.
use Rattle.rfc3550.specs.Packet.{Packet as Read}
use Rattle.rfc3550.specs.Read.{Kind, SR, RR, SDES, BYE, APP, UNKNOWN, kind_for}
use Rattle.report.specs.Report.{sender_view, receiver_view}
use Rattle.report.specs.declared.sender.SenderReport.{SenderReport}
use Rattle.report.specs.declared.receiver.ReceiverReport.{ReceiverReport}
use Rattle.sdes.specs.Sdes.{sdes_view}
use Rattle.sdes.specs.declared.sdes.Sdes.{Sdes}
use Rattle.bye.specs.Bye.{bye_view}
use Rattle.bye.specs.declared.Bye.{Bye}
use Rattle.app.specs.App.{app_view}
use Rattle.app.specs.declared.App.{App}
use Rattle.compound.specs.Unknown.{unknown_view}
use Rattle.compound.specs.declared.unknown.Unknown.{Unknown}
use Rattle.compound.specs.declared.packet.Packet.{Packet}
use Rattle.compound.specs.declared.packet.Packet.TheVariants as packet

-- ---- each kind as a packet

abbrev pub sr_packet : SenderReport → Packet
sr_packet r = packet.Sr r

abbrev pub rr_packet : ReceiverReport → Packet
rr_packet r = packet.Rr r

abbrev pub sdes_packet : Sdes → Packet
sdes_packet s = packet.Sdes s

abbrev pub bye_packet : Bye → Packet
bye_packet b = packet.Bye b

abbrev pub app_packet : App → Packet
app_packet a = packet.App a

abbrev pub unknown_packet : Unknown → Packet
unknown_packet u = packet.Unknown u

-- ---- the view, over the kind

abbrev pub view_as : Kind → Read → Packet
view_as SR p = packet.Sr (sender_view p)
view_as RR p = packet.Rr (receiver_view p)
view_as SDES p = packet.Sdes (sdes_view p)
view_as BYE p = packet.Bye (bye_view p)
view_as APP p = packet.App (app_view p)
view_as UNKNOWN p = packet.Unknown (unknown_view p)

abbrev pub packet_view : Read → Packet
packet_view p = view_as (kind_for p.content) p
