-- Datagrams and their walk as C gets them. A packet is the numbers of its kind, with 0 where the kind has no such field; its kind is its type,
-- or 0 where the type has no layout. A step hands on the walk after it, on a refusal the walk that went in.
use Rattle.std.specs.Prelude.{ℕ, ◌-◌}
use Rattle.rfc3550.specs.Answer.{Answer}
use Rattle.rfc3550.specs.Packet.{Packet as Read}
use Rattle.rfc3550.specs.Walk.{walk_after}
use Rattle.compound.specs.Packet.{packet_view}
use Rattle.report.specs.declared.sender.SenderReport.{SenderReport}
use Rattle.report.specs.declared.receiver.ReceiverReport.{ReceiverReport}
use Rattle.sdes.specs.declared.sdes.Sdes.{Sdes}
use Rattle.bye.specs.declared.Bye.{Bye}
use Rattle.app.specs.declared.App.{App}
use Rattle.compound.specs.declared.unknown.Unknown.{Unknown}
use Rattle.compound.specs.declared.packet.Packet.{Packet}
use Rattle.compound.specs.declared.packet.Packet.TheVariants as packet
use Rattle.compound.specs.declared.compound.Compound.{Compound}
use Rattle.compound.specs.declared.compound.Walk.{Walk}
use Rattle.rtcp.specs.declared.read_compound.PacketNumbers.{PacketNumbers}
use Rattle.rtcp.specs.declared.read_compound.RtcpCompound.{RtcpCompound}
use Rattle.rtcp.specs.declared.read_compound.RtcpWalk.{RtcpWalk}
use Rattle.rtcp.specs.declared.read_compound.RtcpStep.{RtcpStep}
use Rattle.rtcp.specs.Result.{number_of, first_of, second_of, field, bit}

-- ---- a packet of each kind

-- kind, type, count, body, length of the padding; SSRC, NTP time, RTP time, packets, octets, extension; CNAME; whether there is a reason, its place, its length
abbrev pub numbers : ℕ → ℕ → ℕ → ℕ → ℕ → ℕ → ℕ → ℕ → ℕ → ℕ → ℕ → ℕ → ℕ → ℕ → ℕ → PacketNumbers
numbers kind type count body padding ssrc ntp rtp packets octets extension cname reasoned reason len =
    record {
      kind = kind;
      packet_type = type;
      count = count;
      body = body;
      padding_len = padding;
      ssrc = ssrc;
      ntp_timestamp = ntp;
      rtp_timestamp = rtp;
      packet_count = packets;
      octet_count = octets;
      extension = extension;
      has_cname = cname;
      has_reason = reasoned;
      reason = reason;
      reason_len = len;
    }

-- what every kind has
abbrev pub bare_numbers : ℕ → ℕ → ℕ → ℕ → PacketNumbers
bare_numbers type count body padding = numbers type type count body padding 0 0 0 0 0 0 0 0 0 0

abbrev pub sr_numbers : SenderReport → PacketNumbers
sr_numbers x =
    numbers 200 200 x.n_reports x.body x.padding_len
    x.ssrc x.ntp_timestamp x.rtp_timestamp x.packet_count x.octet_count x.extension 0 0 0 0

abbrev pub rr_numbers : ReceiverReport → PacketNumbers
rr_numbers x = numbers 201 201 x.n_reports x.body x.padding_len x.ssrc 0 0 0 0 x.extension 0 0 0 0

abbrev pub sdes_numbers : Sdes → PacketNumbers
sdes_numbers x = numbers 202 202 x.n_chunks x.body x.padding_len 0 0 0 0 0 0 (bit x.has_cname) 0 0 0

abbrev pub bye_numbers : Bye → PacketNumbers
bye_numbers x = numbers 203 203 x.n_sources x.body x.padding_len 0 0 0 0 0 0 0 (bit x.has_reason) x.reason x.reason_len

abbrev pub app_numbers : App → PacketNumbers
app_numbers x = numbers 204 204 x.subtype x.body x.padding_len x.ssrc 0 0 0 0 0 0 0 0 0

abbrev pub unknown_numbers : Unknown → PacketNumbers
unknown_numbers x = numbers 0 x.packet_type x.count x.body x.padding_len 0 0 0 0 0 0 0 0 0 0

abbrev pub numbers_of : Packet → PacketNumbers
numbers_of (packet.Sr x) = sr_numbers x
numbers_of (packet.Rr x) = rr_numbers x
numbers_of (packet.Sdes x) = sdes_numbers x
numbers_of (packet.Bye x) = bye_numbers x
numbers_of (packet.App x) = app_numbers x
numbers_of (packet.Unknown x) = unknown_numbers x

-- of a packet that is read
abbrev pub packet_numbers : Read → PacketNumbers
packet_numbers p = numbers_of (packet_view p)

-- ---- a datagram, and its walk

abbrev pub compound_result : Answer Compound → RtcpCompound
compound_result a = record { number = number_of a; first = first_of a; second = second_of a; n_packets = field (λ x. x.n_packets) a }

abbrev pub walk_result : Answer Walk → RtcpWalk
walk_result a = record { number = number_of a; first = first_of a; second = second_of a; at = field (λ x. x.at) a }

-- the packet has `len` bytes from `offset`; every other place is counted from its start
abbrev pub step_result : ℕ → Answer (Packet × Walk) → RtcpStep
step_result at a =
    record {
      number = number_of a;
      first = first_of a;
      second = second_of a;
      kind = field (λ x. (numbers_of x.0).kind) a;
      packet_type = field (λ x. (numbers_of x.0).packet_type) a;
      count = field (λ x. (numbers_of x.0).count) a;
      offset = field (λ x. at) a;
      len = field (λ x. x.1.at - at) a;
      body = field (λ x. (numbers_of x.0).body) a;
      padding_len = field (λ x. (numbers_of x.0).padding_len) a;
      ssrc = field (λ x. (numbers_of x.0).ssrc) a;
      ntp_timestamp = field (λ x. (numbers_of x.0).ntp_timestamp) a;
      rtp_timestamp = field (λ x. (numbers_of x.0).rtp_timestamp) a;
      packet_count = field (λ x. (numbers_of x.0).packet_count) a;
      octet_count = field (λ x. (numbers_of x.0).octet_count) a;
      extension = field (λ x. (numbers_of x.0).extension) a;
      has_cname = field (λ x. (numbers_of x.0).has_cname) a;
      has_reason = field (λ x. (numbers_of x.0).has_reason) a;
      reason = field (λ x. (numbers_of x.0).reason) a;
      reason_len = field (λ x. (numbers_of x.0).reason_len) a;
      at = (walk_after {A = Packet} {W = Walk} (record { at = at }) a).at;
    }
