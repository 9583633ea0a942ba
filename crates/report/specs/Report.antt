-- A report's fields, its blocks and its extension, as functions of the packet.
use Rattle.std.specs.Prelude.{ℕ, ◌+◌, ◌*◌, List, [], length, get_or}
use Rattle.rfc3550.specs.Packet.{Block, Content, report, sdes, bye, app, unknown, Packet, reporter_fields}
use Rattle.rfc3550.specs.Read.{least, kind_for, blocks_of}
use Rattle.report.specs.declared.receiver.ReceiverReport.{ReceiverReport}
use Rattle.report.specs.declared.sender.SenderReport.{SenderReport}

-- what stands before the blocks, in reading order
abbrev pub fields_of : Content → List ℕ
fields_of (report r bs extension) = reporter_fields r
fields_of (sdes cs) = []
fields_of (bye ss l) = []
fields_of (app subtype ssrc name d) = []
fields_of (unknown t low b) = []

abbrev pub extension_of : Content → List ℕ
extension_of (report r bs extension) = extension
extension_of (sdes cs) = []
extension_of (bye ss l) = []
extension_of (app subtype ssrc name d) = []
extension_of (unknown t low b) = []

abbrev pub report_blocks : Packet → List Block
report_blocks p = blocks_of p.content

-- the end of the blocks
abbrev pub extension_at : Content → ℕ
extension_at c = least (kind_for c) + 24 * length (blocks_of c)

-- the end of the extension
abbrev pub report_body : Packet → ℕ
report_body p = extension_at p.content + length (extension_of p.content)

abbrev pub padding_length : Packet → ℕ
padding_length p = length p.padding

abbrev pub receiver_view : Packet → ReceiverReport
receiver_view p =
    record {
      ssrc = get_or (fields_of p.content) 0 0;
      n_reports = length (blocks_of p.content);
      extension = extension_at p.content;
      body = extension_at p.content + length (extension_of p.content);
      padding_len = padding_length p;
    }

abbrev pub sender_view : Packet → SenderReport
sender_view p =
    record {
      ssrc = get_or (fields_of p.content) 0 0;
      ntp_timestamp = get_or (fields_of p.content) 1 0;
      rtp_timestamp = get_or (fields_of p.content) 2 0;
      packet_count = get_or (fields_of p.content) 3 0;
      octet_count = get_or (fields_of p.content) 4 0;
      n_reports = length (blocks_of p.content);
      extension = extension_at p.content;
      body = extension_at p.content + length (extension_of p.content);
      padding_len = padding_length p;
    }
