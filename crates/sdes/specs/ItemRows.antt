-- The chunks and items of a packet as rows of five numbers: SSRC, type, place of the value from the packet's start, lengths of prefix and value.
use Rattle.std.specs.Prelude.{ℕ, ◌+◌, List, [], ◌∷◌, ◌++◌, length}
use Rattle.rfc3550.specs.Packet.{Item, item, priv, item_bytes, Chunk, chunk_bytes, chunks_of, Packet}

-- an item that stands at `at`
abbrev pub item_row : ℕ → ℕ → Item → List ℕ
item_row ssrc at (item t v) = ssrc ∷ t ∷ (at + 2) ∷ 0 ∷ length v ∷ []
item_row ssrc at (priv p v) = ssrc ∷ 8 ∷ (at + 3 + length p) ∷ length p ∷ length v ∷ []

-- items of which the first stands at `at`, and the zero that ends them, as a row of type 0
unfoldable pub item_rows : ℕ → ℕ → List Item → List ℕ
item_rows ssrc at [] = ssrc ∷ 0 ∷ at ∷ 0 ∷ 0 ∷ []
item_rows ssrc at (i ∷ is) = item_row ssrc at i ++ item_rows ssrc (at + length (item_bytes i)) is

-- chunks of which the first stands at `at`
unfoldable pub chunk_rows : ℕ → List Chunk → List ℕ
chunk_rows at [] = []
chunk_rows at (c ∷ cs) = item_rows c.ssrc (at + 4) c.items ++ chunk_rows (at + length (chunk_bytes c)) cs

abbrev pub sdes_rows : Packet → List ℕ
sdes_rows p = chunk_rows 4 (chunks_of p.content)
