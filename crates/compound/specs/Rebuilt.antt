-- The packet of the language from what the code hands over: the fields of its kind and, over the packet's own bytes, what each accessor gives
-- by its contract.
use Rattle.std.specs.Prelude.{ℕ, zero, suc, ◌+◌, ◌-◌, Bool, true, false, List, [], ◌∷◌, length, take, drop}
use Rattle.rfc3550.specs.Answer.{Answer, ok, refused, ◌>>=◌, map_ok}
use Rattle.rfc3550.specs.Packet.{Block, Item, Chunk, Leaving, no_reason, reason, Content, report, receiver, sender, sdes, bye, app, unknown, Packet as Read}
use Rattle.rfc3550.specs.Read.{Kind, SR, RR, SDES, read_as, read_block_at, read_source_at}
use Rattle.rfc3550.specs.Walk.{SdesWalk, open_sdes, sdes_step, open_items, item_step, open_walk, step, walked}
use Rattle.utils.specs.Parts.{padding_in}
use Rattle.report.specs.Block.{block_view}
use Rattle.report.specs.declared.report_block.ReportBlock.{ReportBlock}
use Rattle.sdes_chunk.specs.Item.{item_view}
use Rattle.sdes_chunk.specs.Chunk.{chunk_view}
use Rattle.sdes_chunk.specs.Returned.{item_from}
use Rattle.sdes_chunk.specs.declared.chunk.SdesChunk.{SdesChunk}
use Rattle.compound.specs.Packet.{packet_view}
use Rattle.compound.specs.declared.packet.Packet.{Packet}
use Rattle.compound.specs.declared.packet.Packet.TheVariants as packet

-- ---- a run of elements, handed over one by one

abbrev pub put : {A : Type 0} → Answer A → List A → List A
put (ok x) xs = x ∷ xs
put (refused r) xs = xs

-- the elements that are given of the first n
unfoldable pub listed : {A : Type 0} → ℕ → (ℕ → Answer A) → List A
listed zero f = []
listed (suc n) f = put (f 0) (listed n (λ (i : ℕ). f (suc i)))

-- ---- blocks

abbrev pub block_from : ReportBlock → Block
block_from b =
    record {
      ssrc = b.ssrc;
      fraction = b.fraction_lost;
      lost = b.cumulative_lost;
      sequence = b.extended_sequence_number;
      jitter = b.interarrival_jitter;
      lsr = b.last_sender_report_timestamp;
      dlsr = b.delay_since_last_sender_report_timestamp;
    }

abbrev pub block_at : Kind → List ℕ → ℕ → Answer Block
block_at k s i = map_ok block_from (map_ok block_view (read_block_at k s i))

-- ---- chunks and their items

-- an item from its numbers and the bytes at its places
abbrev pub item_step_at : List ℕ → ℕ → Answer Item
item_step_at s at = item_step s at >>= λ (x : Item × ℕ). ok (item_from s at (item_view x.0))

-- step i of a walk opened on the chunk at the start of s
abbrev pub item_at : List ℕ → ℕ → Answer Item
item_at s i = open_items s >>= λ (at : ℕ). item_step_at s (walked (item_step s) at i)

abbrev pub rebuilt_chunk : List ℕ → SdesChunk → Chunk
rebuilt_chunk s c = record { ssrc = c.ssrc; items = listed (length s) (item_at s) }

abbrev pub chunk_step_at : List ℕ → SdesWalk → Answer Chunk
chunk_step_at s w = sdes_step s w >>= λ (x : Chunk × SdesWalk). ok (rebuilt_chunk (drop w.at (take 262144 s)) (chunk_view x.0))

-- step i of a walk opened on the packet s
abbrev pub chunk_at : List ℕ → ℕ → Answer Chunk
chunk_at s i = open_sdes s >>= λ (w : SdesWalk). chunk_step_at s (walked (sdes_step s) w i)

-- ---- a packet

abbrev pub leaving_from : Bool → List ℕ → List ℕ → Leaving
leaving_from false r tail = no_reason
leaving_from true r tail = reason r tail

abbrev pub packet_from : Content → List ℕ → Read
packet_from c padding = record { content = c; padding = padding }

abbrev pub rebuilt : List ℕ → Packet → Read
rebuilt s (packet.Sr r) =
    packet_from (report (sender r.ssrc r.ntp_timestamp r.rtp_timestamp r.packet_count r.octet_count) (listed r.n_reports (block_at SR s)) (take (r.body - r.extension) (drop r.extension s)))
    (take r.padding_len (drop r.body s))
rebuilt s (packet.Rr r) =
    packet_from (report (receiver r.ssrc) (listed r.n_reports (block_at RR s)) (take (r.body - r.extension) (drop r.extension s))) (take r.padding_len (drop r.body s))
rebuilt s (packet.Sdes d) = packet_from (sdes (listed d.n_chunks (chunk_at s))) (padding_in (read_as SDES s))
rebuilt s (packet.Bye b) =
    record {
      content = bye (listed b.n_sources (read_source_at s)) (leaving_from b.has_reason (take b.reason_len (drop b.reason s)) (take (b.body - (b.reason + b.reason_len)) (drop (b.reason + b.reason_len) s)));
      padding = take b.padding_len (drop b.body s);
    }
rebuilt s (packet.App a) =
    record {
      content = app a.subtype a.ssrc (take 4 (drop 8 s)) (take (a.body - 12) (drop 12 s));
      padding = take a.padding_len (drop a.body s);
    }
rebuilt s (packet.Unknown u) = packet_from (unknown u.packet_type u.count (take (u.body - 4) (drop 4 s))) (take u.padding_len (drop u.body s))

-- ---- a walk over a datagram: the packet stands from the walk's place to its next place

abbrev pub packet_step_at : List ℕ → ℕ → Answer Read
packet_step_at s at = step s at >>= λ (x : Read × ℕ). ok (rebuilt (take (x.1 - at) (drop at s)) (packet_view x.0))

-- step i of a walk opened on the datagram s
abbrev pub packet_at : List ℕ → ℕ → Answer Read
packet_at s i = open_walk s >>= λ (at : ℕ). packet_step_at s (walked (step s) at i)
