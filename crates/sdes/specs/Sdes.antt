-- A source description packet:
--
--     +-+-+-+-+-+-+-+-+-+-+-+-+-+-+-+-+-+-+-+-+-+-+-+-+-+-+-+-+-+-+-+-+
--     |V=2|P|    SC   |  PT=SDES=202  |    length in words less 1     |
--     +-+-+-+-+-+-+-+-+-+-+-+-+-+-+-+-+-+-+-+-+-+-+-+-+-+-+-+-+-+-+-+-+
--     |                   SC chunks, then the padding                 |
--     +-+-+-+-+-+-+-+-+-+-+-+-+-+-+-+-+-+-+-+-+-+-+-+-+-+-+-+-+-+-+-+-+
--
-- What the code hands over of it: numbers that its layout fixes.
use Rattle.std.specs.Prelude.{◌+◌, length}
use Rattle.rfc3550.specs.Packet.{Packet, content_bytes, chunks_of, has_cname}
use Rattle.sdes.specs.declared.sdes.Sdes.{Sdes}

abbrev pub sdes_view : Packet → Sdes
sdes_view p = record { n_chunks = length (chunks_of p.content); has_cname = has_cname p; body = 4 + length (content_bytes p.content); padding_len = length p.padding }
