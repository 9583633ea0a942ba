-- An APP packet's fields, as functions of the packet.
use Rattle.std.specs.Prelude.{ℕ, ◌+◌, List, [], length}
use Rattle.rfc3550.specs.Packet.{Content, report, sdes, bye, app, unknown, Packet, low_bits}
use Rattle.app.specs.declared.App.{App}

abbrev pub ssrc_of : Content → ℕ
ssrc_of (report r bs extension) = 0
ssrc_of (sdes cs) = 0
ssrc_of (bye ss l) = 0
ssrc_of (app subtype ssrc name d) = ssrc
ssrc_of (unknown t low b) = 0

abbrev pub name_of : Content → List ℕ
name_of (report r bs extension) = []
name_of (sdes cs) = []
name_of (bye ss l) = []
name_of (app subtype ssrc name d) = name
name_of (unknown t low b) = []

abbrev pub data_of : Content → List ℕ
data_of (report r bs extension) = []
data_of (sdes cs) = []
data_of (bye ss l) = []
data_of (app subtype ssrc name d) = d
data_of (unknown t low b) = []

-- the data start at 12
abbrev pub app_view : Packet → App
app_view p =
    record {
      ssrc = ssrc_of p.content;
      subtype = low_bits p.content;
      body = 12 + length (data_of p.content);
      padding_len = length p.padding;
    }
