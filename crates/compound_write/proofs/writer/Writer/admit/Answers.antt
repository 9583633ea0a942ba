use Rattle.std.specs.Prelude.{Some}
use Rattle.rfc3550.proofs.Prelude.{◌≡◌, sym, ◌∙◌}
use Rattle.rfc3550.specs.Write.{calculate_size}
use Rattle.utils.specs.Error.{value_in}
use Rattle.compound_write.specs.Writer.{writer_of}
use Rattle.compound_write.proofs.Writers.{room_none, room_some}
use Rattle.compound_write.proofs.writer.Writer.admit.Goals as goal

pub returns-then-room-size : goal.returns-then-room-size
returns-then-room-size g c =
    let some : Some c.in_ok-size.size ≡ value_in (calculate_size (g.P.RtcpPacketWriter.given c.args.packet)) = sym c.in_ok-size.was ∙ c.size_of.ensures in
    room_none (writer_of c.args.self) _ _ c.if-self.false c.if-self-2.false _ c.packet_type.ensures _ c.may_start.ensures c.if-not-may_start.false _ some c.if-space-self.false c.if-room-size.true

pub returns : goal.returns
returns g c =
    let some : Some c.in_ok-size.size ≡ value_in (calculate_size (g.P.RtcpPacketWriter.given c.args.packet)) = sym c.in_ok-size.was ∙ c.size_of.ensures in
    room_some (writer_of c.args.self) _ _ c.if-self.false c.if-self-2.false _ c.packet_type.ensures _ c.may_start.ensures c.if-not-may_start.false _ some c.if-space-self.false c.if-room-size.false
