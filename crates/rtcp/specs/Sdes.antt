-- SDES packets, chunks, items and walks as C gets them. A step hands on the walk after it, on a refusal the walk that went in.
use Rattle.std.specs.Prelude.{ℕ, ◌+◌, ◌-◌, eqb}
use Rattle.rfc3550.specs.Answer.{Answer, pick}
use Rattle.rfc3550.specs.Walk.{walk_after}
use Rattle.sdes_chunk.specs.declared.item.SdesItem.{SdesItem}
use Rattle.sdes_chunk.specs.declared.chunk.SdesChunk.{SdesChunk}
use Rattle.sdes_chunk.specs.declared.chunk.ItemWalk.{ItemWalk}
use Rattle.sdes.specs.declared.sdes.Sdes.{Sdes}
use Rattle.sdes.specs.declared.sdes.ChunkWalk.{ChunkWalk}
use Rattle.rtcp.specs.declared.read_sdes.RtcpSdes.{RtcpSdes}
use Rattle.rtcp.specs.declared.read_sdes.ItemParts.{ItemParts}
use Rattle.rtcp.specs.declared.read_sdes.RtcpItem.{RtcpItem}
use Rattle.rtcp.specs.declared.read_sdes.RtcpPart.{RtcpPart}
use Rattle.rtcp.specs.declared.read_sdes.RtcpChunk.{RtcpChunk}
use Rattle.rtcp.specs.declared.read_sdes.RtcpChunkWalk.{RtcpChunkWalk}
use Rattle.rtcp.specs.declared.read_sdes.RtcpChunkStep.{RtcpChunkStep}
use Rattle.rtcp.specs.declared.read_sdes.RtcpItemWalk.{RtcpItemWalk}
use Rattle.rtcp.specs.declared.read_sdes.RtcpItemStep.{RtcpItemStep}
use Rattle.rtcp.specs.Result.{number_of, first_of, second_of, field, bit}

abbrev pub sdes_result : Answer Sdes → RtcpSdes
sdes_result a =
    record {
      number = number_of a;
      first = first_of a;
      second = second_of a;
      n_chunks = field (λ x. x.n_chunks) a;
      has_cname = field (λ x. bit x.has_cname) a;
      body = field (λ x. x.body) a;
      padding_len = field (λ x. x.padding_len) a;
    }

-- ---- items

-- counted from the item's start: in PRIV the prefix has its length before it
abbrev pub prefix_start : SdesItem → ℕ
prefix_start i = pick (eqb i.type_ 8) 3 2

-- of an item that stands at `at`: the value follows the prefix and ends with the item
abbrev pub item_parts : ℕ → SdesItem → ItemParts
item_parts at i =
    record {
      prefix = at + prefix_start i;
      value = at + (prefix_start i + i.prefix_len);
      value_len = 2 + i.length - (prefix_start i + i.prefix_len);
    }

abbrev pub item_result : Answer SdesItem → RtcpItem
item_result a =
    record {
      number = number_of a;
      first = first_of a;
      second = second_of a;
      type_ = field (λ x. x.type_) a;
      length = field (λ x. x.length) a;
      prefix = field (λ x. (item_parts 0 x).prefix) a;
      prefix_len = field (λ x. x.prefix_len) a;
      value = field (λ x. (item_parts 0 x).value) a;
      value_len = field (λ x. (item_parts 0 x).value_len) a;
    }

-- from the prefix's length
abbrev pub prefix_result : Answer ℕ → RtcpPart
prefix_result a = record { number = number_of a; first = first_of a; second = second_of a; offset = field (λ x. 3) a; len = field (λ x. x) a }

-- ---- chunks

abbrev pub chunk_result : Answer SdesChunk → RtcpChunk
chunk_result a =
    record {
      number = number_of a;
      first = first_of a;
      second = second_of a;
      ssrc = field (λ x. x.ssrc) a;
      length = field (λ x. x.length) a;
      cname = field (λ x. x.cname) a;
    }

-- ---- walks

abbrev pub chunk_walk_result : Answer ChunkWalk → RtcpChunkWalk
chunk_walk_result a = record { number = number_of a; first = first_of a; second = second_of a; at = field (λ x. x.at) a; end = field (λ x. x.end) a }

abbrev pub chunk_step_result : ℕ → ℕ → Answer (SdesChunk × ChunkWalk) → RtcpChunkStep
chunk_step_result at end a =
    record {
      number = number_of a;
      first = first_of a;
      second = second_of a;
      ssrc = field (λ x. x.0.ssrc) a;
      length = field (λ x. x.0.length) a;
      cname = field (λ x. x.0.cname) a;
      at = (walk_after {A = SdesChunk} {W = ChunkWalk} (record { at = at; end = end }) a).at;
      end = (walk_after {A = SdesChunk} {W = ChunkWalk} (record { at = at; end = end }) a).end;
    }

abbrev pub item_walk_result : Answer ItemWalk → RtcpItemWalk
item_walk_result a = record { number = number_of a; first = first_of a; second = second_of a; at = field (λ x. x.at) a }

abbrev pub item_step_result : ℕ → Answer (SdesItem × ItemWalk) → RtcpItemStep
item_step_result at a =
    record {
      number = number_of a;
      first = first_of a;
      second = second_of a;
      type_ = field (λ x. x.0.type_) a;
      length = field (λ x. x.0.length) a;
      prefix = field (λ x. (item_parts at x.0).prefix) a;
      prefix_len = field (λ x. x.0.prefix_len) a;
      value = field (λ x. (item_parts at x.0).value) a;
      value_len = field (λ x. (item_parts at x.0).value_len) a;
      at = (walk_after {A = SdesItem} {W = ItemWalk} (record { at = at }) a).at;
    }
