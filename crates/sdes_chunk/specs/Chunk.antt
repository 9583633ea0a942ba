-- A chunk:
--
--     +-+-+-+-+-+-+-+-+-+-+-+-+-+-+-+-+-+-+-+-+-+-+-+-+-+-+-+-+-+-+-+-+
--     |                              SSRC                             |
--     +-+-+-+-+-+-+-+-+-+-+-+-+-+-+-+-+-+-+-+-+-+-+-+-+-+-+-+-+-+-+-+-+
--     |                           SDES items                          |
--     |                     ..        | zeros, 1 to 4, to the boundary|
--     +-+-+-+-+-+-+-+-+-+-+-+-+-+-+-+-+-+-+-+-+-+-+-+-+-+-+-+-+-+-+-+-+
--
-- What the code hands over of it: numbers that its layout fixes.
use Rattle.std.specs.Prelude.{ℕ, zero, suc, ◌+◌, ◌<◌, ◌≤◌, ◌≡◌, Bool, true, false, ◌&&◌, List, [], ◌∷◌, Option, None, Some, is_some, option_map, unwrap_or, length, get_or, drop, ltb, eqb}
use Rattle.std.specs.Option.{option_or}
use Rattle.rfc3550.specs.Answer.{Refusal, Answer, ok, refused, refuse, map_ok, pick}
use Rattle.rfc3550.specs.Packet.{Item, item_type, item_rest, item_bytes, is_cname, Chunk, chunk_bytes, fill}
use Rattle.rfc3550.specs.Read.{read_item, read_fill, read_chunk}
use Rattle.utils.specs.Error.{value_in}
use Rattle.sdes_chunk.specs.declared.chunk.SdesChunk.{SdesChunk}
use Rattle.sdes_chunk.specs.declared.chunk.ChunkEnd.{ChunkEnd}
use Rattle.sdes_chunk.specs.declared.chunk.Chunks.{Chunks}

-- ---- views

-- the place of the first CNAME among items of which the first stands at `at`; 0 where there is none
unfoldable pub cname_place : ℕ → List Item → ℕ
cname_place at [] = 0
cname_place at (i ∷ is) = pick (is_cname (item_type i) (length (item_rest i))) at (cname_place (at + length (item_bytes i)) is)

-- the same place, or none
unfoldable pub cname_found : ℕ → List Item → Option ℕ
cname_found at [] = None
cname_found at (i ∷ is) = pick (is_cname (item_type i) (length (item_rest i))) (Some at) (cname_found (at + length (item_bytes i)) is)

abbrev pub chunk_view : Chunk → SdesChunk
chunk_view c = record { ssrc = c.ssrc; length = length (chunk_bytes c); cname = cname_place 4 c.items }

-- of a chunk and the bytes after it
abbrev pub chunk_first : Chunk × List ℕ → SdesChunk
chunk_first x = chunk_view x.0

-- ---- steps

abbrev pub first_cname : Option ℕ → ℕ → ℕ → ℕ → Option ℕ
first_cname known at t len = option_or known (pick (is_cname t len) (Some at) None)

abbrev pub zero_at : List ℕ → ℕ → Bool
zero_at s at = ltb at (length s) && eqb (get_or s at 0) 0

abbrev pub boundary : ℕ → List ℕ → ℕ
boundary at rest = at + fill at

-- zeros up to the boundary, or up to a place before it
abbrev pub filled : ℕ → ℕ → Answer ℕ
filled end at = pick (ltb at end) (refuse 2 end at) (ok end)

-- where a chunk ends, and the first CNAME up to there, where the place of one before the chunk may be known
abbrev pub chunk_end : Option ℕ → Chunk × List ℕ → ChunkEnd
chunk_end known x = record { length = length (chunk_bytes x.0); cname = option_or known (cname_found 4 x.0.items) }

-- the chunk whose items end at `at`
abbrev pub closed_at : ℕ → Option ℕ → List ℕ → ChunkEnd
closed_at at cname rest = record { length = at + fill at; cname = cname }

-- no further item of the chunk at the start of s follows at `at`, and the first CNAME before it stands at `cname`: left are the zeros, or why there is none
pub record ItemsEnd (s : List ℕ) (known : Option ℕ) (at : ℕ) (cname : Option ℕ) (closed : Bool) : Type 0 where
  pub within : at ≤ length s
  pub zero : closed ≡ true → (at < length s) × (get_or s at 0 ≡ 0)
  pub closes : closed ≡ true → map_ok (closed_at at cname) (read_fill (fill at) at (drop at s)) ≡ map_ok (chunk_end known) (read_chunk s)
  pub ended : closed ≡ false → at ≡ length s → read_chunk s ≡ refuse 2 (at + fill at) at
  pub item : closed ≡ false → (at ≡ length s → ⊥) → (r : Refusal) × (read_item (drop at s) ≡ refused r) × (read_chunk s ≡ refused r)

-- zeros stand from one place up to another, the boundary `end` at most
pub record ZerosEnd (s : List ℕ) (from end at : ℕ) : Type 0 where
  pub below : at ≤ end
  pub closes : map_ok (boundary from) (read_fill (fill from) from (drop from s)) ≡ filled end at

-- whether zeros stand from a place on, up to the boundary
abbrev pub filled_at : List ℕ → ℕ → Bool
filled_at s at = is_some (value_in (read_fill (fill at) at (drop at s)))

-- ---- chunks one after the other

-- n chunks of which the first stands at `at`, at the start of s, up to one that is refused
unfoldable pub chunks_from : ℕ → ℕ → Option ℕ → List ℕ → Chunks
chunks_from zero at cname s = record { at = at; left = 0; cname = cname }
chunks_from (suc n) at cname s =
    unwrap_or
    (option_map (λ (x : Chunk × List ℕ). chunks_from n (at + (chunk_end cname x).length) (chunk_end cname x).cname x.1) (value_in (read_chunk s)))
    (record { at = at; left = suc n; cname = cname })
