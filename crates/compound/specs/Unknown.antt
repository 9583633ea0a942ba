-- An unknown packet's fields and its body, as functions of the packet.
use Rattle.std.specs.Prelude.{ℕ, ◌+◌, List, [], length}
use Rattle.rfc3550.specs.Packet.{Content, report, sdes, bye, app, unknown, Packet, type, low_bits}
use Rattle.compound.specs.declared.unknown.Unknown.{Unknown}

-- the bytes after the header
abbrev pub body_of : Content → List ℕ
body_of (report r bs extension) = []
body_of (sdes cs) = []
body_of (bye ss l) = []
body_of (app subtype ssrc name d) = []
body_of (unknown t low b) = b

abbrev pub unknown_view : Packet → Unknown
unknown_view p =
    record {
      packet_type = type p.content;
      count = low_bits p.content;
      body = 4 + length (body_of p.content);
      padding_len = length p.padding;
    }
