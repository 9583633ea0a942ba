-- The definitions compute: a compound of 3 kB is read by evaluation alone.
use lib.IntN.{negsuc}
use Rattle.rfc3550.proofs.Prelude.{ℕ, ◌≡◌, refl, List, [], ◌∷◌, ◌++◌, length, replicate}
use Rattle.rfc3550.specs.Answer.{ok, need, ◌>>◌, ◌>>=◌}
use Rattle.rfc3550.specs.Bytes.{be, val, put, get, sum}
use Rattle.rfc3550.specs.Loss.{loss_bits, loss_of}
use Rattle.rfc3550.specs.Packet.{Block, item, receiver, report, sdes, Packet, layout, layouts, blocks_bytes, items_bytes, chunk_bytes, chunks_bytes, content_bytes}
use Rattle.rfc3550.specs.Read.{kind_of, version_in, padded, low_in, type_in, stated, padding_count, padding_fits, check_header, read_blocks, read_report, item_of, read_item, read_fill, read_items, read_chunk, read_chunks, read_content, read_as}
use Rattle.rfc3550.specs.Compound.{read_packet, read_packets, read_compound}

abbrev block : Block
block = record { ssrc = 0xCAFEBABE; fraction = 0x40; lost = negsuc 0x123455; sequence = 0x00010203; jitter = 77; lsr = 0x89ABCDEF; dlsr = 65536 }

abbrev reports : List Packet
reports = replicate 4 (record { content = report (receiver 0x01020304) (replicate 31 block) []; padding = [] })

abbrev name : Packet
name = record { content = sdes (record { ssrc = 0x01020304; items = item 1 (replicate 40 0x61) ∷ [] } ∷ []); padding = [] }

abbrev datagram : List ℕ
datagram = layouts (reports ++ (name ∷ []))

pub three_kilobytes : (length datagram ≡ 3060) × (read_compound datagram ≡ ok (reports ++ (name ∷ [])))
unfolding be val put get sum loss_bits loss_of layout layouts blocks_bytes items_bytes chunk_bytes chunks_bytes content_bytes kind_of version_in padded low_in type_in stated padding_count padding_fits check_header read_blocks read_report item_of read_item read_fill read_items read_chunk read_chunks read_content read_as read_packet read_packets read_compound need ◌>>◌ ◌>>=◌
three_kilobytes = (refl, refl)
