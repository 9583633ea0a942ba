-- Document 01's trial rows marked ★, row 10 by document 02, order 1, and rows of orders 2 and 3, as one list by one theorem.
use lib.IntN.{pos, negsuc}
use Rattle.rfc3550.proofs.Prelude.{ℕ, true, false, ◌≡◌, refl, List, [], ◌∷◌, ◌++◌, replicate}
use Rattle.rfc3550.specs.Answer.{Answer, ok, refuse, need, ◌>>◌, ◌>>=◌, map_ok}
use Rattle.rfc3550.specs.Bytes.{be, val, put, get, sum, store}
use Rattle.rfc3550.specs.Loss.{Loss, loss_bits, loss_in, loss_shown}
use Rattle.rfc3550.specs.Packet.{item, receiver, Content, report, sdes, Packet, All, blocks_bytes, items_bytes, chunk_bytes, chunks_bytes, content_bytes, layout}
use Rattle.rfc3550.specs.Read.{Kind, RR, SDES, kind_of, version_in, padded, low_in, type_in, stated, padding_count, padding_fits, check_header, read_blocks, read_report, item_of, read_item, read_fill, read_items, read_chunk, read_chunks, read_content, read_as}
use Rattle.rfc3550.specs.Write.{Given, give_report, give_bye, lent_blocks, loss_tests, own_tests, tests, calculate_size, room, write}
use Rattle.rfc3550.specs.Lookup.{first, found_in, lookup, lookup_with}
use Rattle.rfc3550.specs.Reception.{Reception, new_reception, verdict, update_seq, update, block_of, in_probation, made, report_block}
use Rattle.rfc3550.specs.History.{Happening, packet, block, reception_after_all, Reply, packet_reply, block_reply, replies}
use Rattle.rfc3550.specs.Compound.{read_packet, read_packets, read_compound}

pub data Row : Type 0 where
  reads : Kind → List ℕ → Answer Packet → Row
  compound : List ℕ → Answer (List Packet) → Row
  writes : Given → List ℕ → Answer ℕ × List ℕ → Row
  looks_up : List ℕ → List ℕ → List ℕ → Answer ℕ × List ℕ → Row
  hears : ℕ → List Happening → List Reply → Reception → Row

abbrev Holds : Row → Type 0
Holds (reads k s a) = read_as k s ≡ a
Holds (compound s a) = read_compound s ≡ a
Holds (writes g l a) = write g l ≡ a
Holds (looks_up s ssrcs l a) = lookup_with 0 s ssrcs l ≡ a
Holds (hears seq es answers s) = ◌≡◌ {A = List Reply × Reception} (replies (new_reception seq) es, reception_after_all (new_reception seq) es) (answers, s)

abbrev row1 : List ℕ
row1 = 0x80 ∷ 0xC9 ∷ 0x00 ∷ 0x01 ∷ 0x11 ∷ 0x22 ∷ 0x33 ∷ 0x44 ∷ []

abbrev row2 : List ℕ
row2 = 0x81 ∷ 0xCA ∷ 0x00 ∷ 0x03 ∷ 0x11 ∷ 0x22 ∷ 0x33 ∷ 0x44 ∷ 0x01 ∷ 0x03 ∷ 0x61 ∷ 0x40 ∷ 0x62 ∷ 0x00 ∷ 0x00 ∷ 0x00 ∷ []

abbrev plain : Content → Packet
plain c = record { content = c; padding = [] }

abbrev rr : Packet
rr = plain (report (receiver 0x11223344) [] [])

abbrev cname : Packet
cname = plain (sdes (record { ssrc = 0x11223344; items = item 1 (0x61 ∷ 0x40 ∷ 0x62 ∷ []) ∷ [] } ∷ []))

-- row 10: a report of one block with this loss, and its bytes with the loss's three
abbrev lost : Loss → Given
lost l = give_report (receiver 0x11223344) (record { fractions = 5 ∷ []; losses = l ∷ []; words = 1 ∷ 2 ∷ 3 ∷ 4 ∷ 5 ∷ [] }) 0

abbrev row10 : ℕ → ℕ → ℕ → List ℕ
row10 a b c = 0x81 ∷ 0xC9 ∷ 0 ∷ 7 ∷ 0x11 ∷ 0x22 ∷ 0x33 ∷ 0x44 ∷ 0 ∷ 0 ∷ 0 ∷ 1 ∷ 5 ∷ a ∷ b ∷ c ∷ 0 ∷ 0 ∷ 0 ∷ 2 ∷ 0 ∷ 0 ∷ 0 ∷ 3 ∷ 0 ∷ 0 ∷ 0 ∷ 4 ∷ 0 ∷ 0 ∷ 0 ∷ 5 ∷ []

abbrev space : List ℕ
space = replicate 32 0xEE

-- order 2: SSRC 1 without an item, SSRC 0 with a CNAME, SSRC 1 with NAME and CNAME, SSRC 0 with a CNAME again
abbrev stage : List ℕ
stage =
    0x84 ∷ 0xCA ∷ 0 ∷ 9 ∷ 0 ∷ 0 ∷ 0 ∷ 1 ∷ 0 ∷ 0 ∷ 0 ∷ 0 ∷ 0 ∷ 0 ∷ 0 ∷ 0 ∷ 1 ∷ 1 ∷ 0x61 ∷ 0
    ∷ 0 ∷ 0 ∷ 0 ∷ 1 ∷ 2 ∷ 0 ∷ 1 ∷ 1 ∷ 0x62 ∷ 0 ∷ 0 ∷ 0 ∷ 0 ∷ 0 ∷ 0 ∷ 0 ∷ 1 ∷ 0 ∷ 0 ∷ 0 ∷ []

-- order 3: a packet whose timestamp is its arrival, what is answered to it, a state by its numbers, and a block
abbrev comes : ℕ → Happening
comes seq = packet seq 0 0

abbrev no : Reply
no = packet_reply false

abbrev yes : Reply
yes = packet_reply true

abbrev state : ℕ → ℕ → ℕ → ℕ → ℕ → ℕ → ℕ → ℕ → ℕ → ℕ → Reception
state m c b bad p r e q t j = record { max_seq = m; cycles = c; base_seq = b; bad_seq = bad; probation = p; received = r; expected_prior = e; received_prior = q; transit = t; jitter = j }

abbrev figures : ℕ → Loss → ℕ → ℕ → Reply
figures f l x j = block_reply (made (record { ssrc = 7; fraction = f; lost = l; sequence = x; jitter = j; lsr = 8; dlsr = 9 }))

abbrev rows : List Row
rows =
    reads RR row1 (ok rr)
    ∷ reads SDES row2 (ok cname)
    ∷ compound (row1 ++ row2) (ok (rr ∷ cname ∷ []))
    ∷ compound row1 (refuse 8 0 0)
    ∷ compound row2 (refuse 7 202 0)
    ∷ compound [] (refuse 2 4 0)
    ∷ reads SDES
    (0x82 ∷ 0xCA ∷ 0x00 ∷ 0x04 ∷ 0x00 ∷ 0x00 ∷ 0x00 ∷ 0x01 ∷ 0x00 ∷ 0x00 ∷ 0x00 ∷ 0x00 ∷ 0x00 ∷ 0x00 ∷ 0x00 ∷ 0x10 ∷ 0x00 ∷ 0x00 ∷ 0x00 ∷ 0x00 ∷ [])
    (ok (plain (sdes (record { ssrc = 1; items = [] } ∷ record { ssrc = 16; items = [] } ∷ []))))
    ∷ reads SDES (0xA0 ∷ 0xCA ∷ 0x00 ∷ 0x00 ∷ []) (refuse 4 0 0)
    ∷ reads SDES (0x81 ∷ 0xCA ∷ 0x00 ∷ 0x03 ∷ 0x00 ∷ 0x00 ∷ 0x00 ∷ 0x01 ∷ 0x08 ∷ 0x01 ∷ 0x05 ∷ 0x00 ∷ 0x00 ∷ 0x00 ∷ 0x00 ∷ 0x00 ∷ []) (refuse 5 5 0)
    ∷ reads SDES
    (0x81 ∷ 0xCA ∷ 0x00 ∷ 0x03 ∷ 0x00 ∷ 0x00 ∷ 0x00 ∷ 0x01 ∷ 0x01 ∷ 0x03 ∷ 0x61 ∷ 0x62 ∷ 0x63 ∷ 0x02 ∷ 0x00 ∷ 0x00 ∷ [])
    (ok (plain (sdes (record { ssrc = 1; items = item 1 (0x61 ∷ 0x62 ∷ 0x63 ∷ []) ∷ item 2 [] ∷ [] } ∷ []))))
    ∷ reads SDES (0x81 ∷ 0xCA ∷ 0x00 ∷ 0x01 ∷ 0x00 ∷ 0x00 ∷ 0x00 ∷ 0x01 ∷ []) (refuse 2 8 4)
    ∷ writes (give_bye (0x11223344 ∷ []) (0x61 ∷ 0x62 ∷ []) 4) (replicate 18 0xEE)
    (ok 16, 0xA1 ∷ 0xCB ∷ 0x00 ∷ 0x03 ∷ 0x11 ∷ 0x22 ∷ 0x33 ∷ 0x44 ∷ 0x02 ∷ 0x61 ∷ 0x62 ∷ 0x00 ∷ 0x00 ∷ 0x00 ∷ 0x00 ∷ 0x04 ∷ 0xEE ∷ 0xEE ∷ [])
    ∷ writes (lost (pos 8388607)) space (ok 32, row10 0x7F 0xFF 0xFF)
    ∷ writes (lost (negsuc 8388607)) space (ok 32, row10 0x80 0 0)
    ∷ writes (lost (negsuc 0)) space (ok 32, row10 0xFF 0xFF 0xFF)
    ∷ writes (lost (pos 0)) space (ok 32, row10 0 0 0)
    ∷ writes (lost (pos 8388608)) space (refuse 17 8388608 8388607, space)
    ∷ writes (lost (negsuc 8388608)) space (refuse 17 4286578687 8388607, space)
    ∷ looks_up stage (0 ∷ 1 ∷ 2 ∷ 1 ∷ []) (7 ∷ 7 ∷ 7 ∷ 7 ∷ 7 ∷ []) (ok 0, 1 ∷ 2 ∷ 255 ∷ 2 ∷ 7 ∷ [])
    ∷ looks_up stage [] [] (ok 0, [])
    ∷ looks_up [] (1 ∷ 2 ∷ []) (7 ∷ []) (refuse 31 0 0, 7 ∷ [])
    ∷ looks_up [] [] (7 ∷ []) (refuse 2 4 0, 7 ∷ [])
    ∷ looks_up (0x80 ∷ 0xCA ∷ 0 ∷ 0 ∷ []) (0 ∷ []) (7 ∷ 7 ∷ []) (ok 0, 255 ∷ 7 ∷ [])
    ∷ hears 5 (block 7 8 9 ∷ []) (block_reply in_probation ∷ []) (state 4 0 5 65537 2 0 0 0 0 0)
    ∷ hears 65535 (comes 65535 ∷ comes 0 ∷ []) (no ∷ yes ∷ []) (state 0 0 0 65537 0 1 0 0 0 0)
    ∷ hears 5 (comes 5 ∷ comes 9 ∷ comes 10 ∷ []) (no ∷ no ∷ yes ∷ []) (state 10 0 10 65537 0 1 0 0 0 0)
    ∷ hears 0 (comes 0 ∷ comes 1 ∷ comes 3001 ∷ comes 2 ∷ comes 3002 ∷ []) (no ∷ yes ∷ no ∷ yes ∷ yes ∷ []) (state 3002 0 3002 65537 0 1 0 0 0 0)
    ∷ hears 0 (comes 0 ∷ comes 1 ∷ comes 3000 ∷ comes 6000 ∷ block 7 8 9 ∷ []) (no ∷ yes ∷ yes ∷ no ∷ figures 255 (pos 2998) 3000 0 ∷ []) (state 3000 0 1 6001 0 2 3000 2 0 0)
    ∷ hears 0 (comes 0 ∷ comes 1 ∷ comes 65438 ∷ comes 65437 ∷ []) (no ∷ yes ∷ yes ∷ no ∷ []) (state 1 0 1 65438 0 2 0 0 0 0)
    ∷ hears 0 (comes 0 ∷ comes 1 ∷ comes 1 ∷ comes 1 ∷ block 7 8 9 ∷ block 7 8 9 ∷ []) (no ∷ yes ∷ yes ∷ yes ∷ figures 0 (negsuc 1) 1 0 ∷ figures 0 (negsuc 1) 1 0 ∷ []) (state 1 0 1 65537 0 3 1 3 0 0)
    ∷ hears 0 (comes 0 ∷ packet 1 0 5 ∷ packet 2 0 15 ∷ packet 3 2147483648 15 ∷ block 7 8 9 ∷ []) (no ∷ yes ∷ yes ∷ yes ∷ figures 0 (pos 0) 3 134217728 ∷ []) (state 3 0 1 65537 0 3 3 3 2147483663 2147483657)
    ∷ []

pub rows_hold : All Holds rows
unfolding be val put get sum store loss_bits loss_in loss_shown lent_blocks loss_tests blocks_bytes items_bytes chunk_bytes chunks_bytes content_bytes layout kind_of version_in padded low_in type_in stated padding_count padding_fits check_header read_blocks read_report item_of read_item read_fill read_items read_chunk read_chunks read_content read_as own_tests tests calculate_size room write read_packet read_packets read_compound first found_in lookup lookup_with new_reception verdict update_seq update block_of report_block reception_after_all replies map_ok need ◌>>◌ ◌>>=◌
rows_hold = (refl, (refl, (refl, (refl, (refl, (refl, (refl, (refl, (refl, (refl, (refl, (refl, (refl, (refl, (refl, (refl, (refl, (refl, (refl, (refl, (refl, (refl, (refl, (refl, (refl, (refl, (refl, (refl, (refl, (refl, (refl, tt)))))))))))))))))))))))))))))))
