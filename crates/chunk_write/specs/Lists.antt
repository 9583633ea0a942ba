-- The bytes of the lent lists: what their sizes leave known, and what laying them down ensures.
use Rattle.std.specs.Prelude.{ℕ, ◌+◌, ◌-◌, ◌≤◌, ◌≡◌, Bool, Option, List, length, take, drop}
use Rattle.rfc3550.specs.Answer.{Answer, ok}
use Rattle.rfc3550.specs.Bytes.{sum, store}
use Rattle.rfc3550.specs.Packet.{item_bytes, items_bytes, chunk_bytes, chunks_bytes}
use Rattle.rfc3550.specs.Write.{LentItem, lent_items, lent_chunks, item_given, items_given, chunk_given, chunks_given, items_agree, items_tests}
use Rattle.chunk_write.specs.Sizes.{lent, item_length, size_of, SameLengths, items_refused, items_end, chunks_end, between, boundary_above}
use Rattle.chunk_write.specs.declared.chunks.ItemLists.{ItemLists}
use Rattle.chunk_write.specs.declared.chunks.ItemsEnd.{ItemsEnd}
use Rattle.chunk_write.specs.declared.chunks.ItemRange.{ItemRange}
use Rattle.chunk_write.specs.declared.chunks.LaidEnd.{LaidEnd}

-- of the lists as the code has them
abbrev pub agree_in : ItemLists → Bool
agree_in l = items_agree l.types.now l.prefixes.now l.values.now l.bytes.now

abbrev pub listed_in : ItemLists → Type 0
listed_in l = SameLengths l.types.now l.prefixes.now l.values.now

abbrev pub refused_in : ItemLists → Answer ℕ
refused_in l = items_refused l.types.now l.prefixes.now l.values.now

abbrev pub items_end_in : ℕ → ℕ → ItemLists → Option ItemsEnd
items_end_in at left l = items_end at left l.types.now l.prefixes.now l.values.now

abbrev pub chunks_end_in : ℕ → List ℕ → ItemLists → Option ℕ
chunks_end_in at cs l = chunks_end at (length l.bytes.now) cs l.types.now l.prefixes.now l.values.now

-- the first so many of the items, and those after them; the bytes are all
pub record FirstItems (c : ℕ) (all some : ItemLists) : Type 0 where
  pub types : some.types.now ≡ take c all.types.now
  pub prefixes : some.prefixes.now ≡ take c all.prefixes.now
  pub values : some.values.now ≡ take c all.values.now
  pub bytes : some.bytes.now ≡ all.bytes.now

pub record LaterItems (c : ℕ) (all some : ItemLists) : Type 0 where
  pub types : some.types.now ≡ drop c all.types.now
  pub prefixes : some.prefixes.now ≡ drop c all.prefixes.now
  pub values : some.values.now ≡ drop c all.values.now
  pub bytes : some.bytes.now ≡ all.bytes.now

pub record Within (ts ps vs bs : List ℕ) (i j from : ℕ) : Type 0 where
  pub order : i ≤ j
  pub within : j ≤ length ts
  pub lists : SameLengths ts ps vs
  pub bytes : from ≤ length bs

-- the bytes of the lent items
abbrev pub laid_items : List ℕ → List ℕ → List ℕ → List ℕ → List ℕ
laid_items ts ps vs bs = items_bytes (items_given (lent_items ts ps vs bs))

-- one item, whose bytes start at `from`, laid at `at`
pub record PartFits (t p v from total at space : ℕ) : Type 0 where
  pub bytes : from + p + v ≤ total
  pub passed : size_of t p v ≡ ok (item_length t p v)
  pub room : at + item_length t p v ≤ space

abbrev pub lent_at : ℕ → ℕ → ℕ → ℕ → List ℕ → LentItem
lent_at t p v from bs = lent t (take p (drop from bs)) (take v (drop (from + p) bs))

pub record PartLaid (t p v from : ℕ) (bs : List ℕ) (at : ℕ) (l : List ℕ) (r : ℕ) (l₁ : List ℕ) : Type 0 where
  pub size : r ≡ item_length t p v
  pub bytes : l₁ ≡ store at (item_bytes (item_given (lent_at t p v from bs))) l
  pub ends : at + r ≤ length l
  pub taken : from + p + v ≤ length bs

pub record ItemsFit (ts ps vs bs : List ℕ) (space : ℕ) : Type 0 where
  pub listed : SameLengths ts ps vs
  pub bytes : sum ps + sum vs ≤ length bs
  pub tests : items_tests (lent_items ts ps vs bs) ≡ ok tt
  pub room : length (laid_items ts ps vs bs) ≤ space

-- the items from index o on, their bytes from `from` on
pub record ItemsLaid (o from : ℕ) (ts ps vs bs l : List ℕ) (r : LaidEnd) (l₁ : List ℕ) : Type 0 where
  pub size : r.end ≡ o + length (laid_items ts ps vs bs)
  pub used : r.taken ≡ from + (sum ps + sum vs)
  pub bytes : l₁ ≡ store o (laid_items ts ps vs bs) l

-- the bytes of the chunk of them
abbrev pub laid_chunk : ℕ → List ℕ → List ℕ → List ℕ → List ℕ → List ℕ
laid_chunk ssrc ts ps vs bs = chunk_bytes (chunk_given (record { ssrc = ssrc; items = lent_items ts ps vs bs }))

pub record ChunkFits (ts ps vs bs : List ℕ) (space : ℕ) : Type 0 where
  pub listed : SameLengths ts ps vs
  pub bytes : sum ps + sum vs ≤ length bs
  pub tests : items_tests (lent_items ts ps vs bs) ≡ ok tt
  pub room : boundary_above (4 + length (laid_items ts ps vs bs)) ≤ space

pub record ChunkLaid (ssrc from : ℕ) (ts ps vs bs l : List ℕ) (r : LaidEnd) (l₁ : List ℕ) : Type 0 where
  pub size : r.end ≡ length (laid_chunk ssrc ts ps vs bs)
  pub used : r.taken ≡ from + (sum ps + sum vs)
  pub bytes : l₁ ≡ store 0 (laid_chunk ssrc ts ps vs bs) l

pub record ChunkFitsAt (ts ps vs bs : List ℕ) (i j from at space : ℕ) : Type 0 where
  pub order : i ≤ j
  pub within : j ≤ length ts
  pub listed : SameLengths ts ps vs
  pub start : at ≤ space
  pub bytes : from ≤ length bs
  pub fits : ChunkFits (between i j ts) (between i j ps) (between i j vs) (drop from bs) (space - at)

pub record ChunkLaidAt (ssrc : ℕ) (ts ps vs bs : List ℕ) (i j from at : ℕ) (l : List ℕ) (r : LaidEnd) (l₁ : List ℕ) : Type 0 where
  pub size : r.end ≡ length (laid_chunk ssrc (between i j ts) (between i j ps) (between i j vs) (drop from bs))
  pub used : r.taken ≡ from + (sum (between i j ps) + sum (between i j vs))
  pub bytes : l₁ ≡ store at (laid_chunk ssrc (between i j ts) (between i j ps) (between i j vs) (drop from bs)) l
  pub ends : at + r.end ≤ length l
  pub taken : r.taken ≤ length bs

-- the same of the items of a range
abbrev pub ItemsFitIn : ItemLists → ItemRange → ℕ → Type 0
ItemsFitIn l r space = Within l.types.now l.prefixes.now l.values.now l.bytes.now r.first r.last r.from × ItemsFit (between r.first r.last l.types.now) (between r.first r.last l.prefixes.now) (between r.first r.last l.values.now) (drop r.from l.bytes.now) space

abbrev pub ItemsLaidIn : ℕ → ItemLists → ItemRange → List ℕ → LaidEnd → List ℕ → Type 0
ItemsLaidIn o l r b e b₁ = ItemsLaid o r.from (between r.first r.last l.types.now) (between r.first r.last l.prefixes.now) (between r.first r.last l.values.now) (drop r.from l.bytes.now) b e b₁

abbrev pub ChunkFitsIn : ItemLists → ItemRange → ℕ → Type 0
ChunkFitsIn l r space = Within l.types.now l.prefixes.now l.values.now l.bytes.now r.first r.last r.from × ChunkFits (between r.first r.last l.types.now) (between r.first r.last l.prefixes.now) (between r.first r.last l.values.now) (drop r.from l.bytes.now) space

abbrev pub ChunkLaidIn : ℕ → ItemLists → ItemRange → List ℕ → LaidEnd → List ℕ → Type 0
ChunkLaidIn ssrc l r b e b₁ = ChunkLaid ssrc r.from (between r.first r.last l.types.now) (between r.first r.last l.prefixes.now) (between r.first r.last l.values.now) (drop r.from l.bytes.now) b e b₁

-- the bytes of the lent chunks
abbrev pub laid_chunks : List ℕ → List ℕ → List ℕ → List ℕ → List ℕ → List ℕ → List ℕ
laid_chunks ss cs ts ps vs bs = chunks_bytes (chunks_given (lent_chunks ss cs (lent_items ts ps vs bs)))

pub record ChunksFit (o : ℕ) (ss cs ts ps vs bs : List ℕ) (space : ℕ) : Type 0 where
  pub counts : length cs ≡ length ss
  pub items : sum cs ≡ length ts
  pub listed : SameLengths ts ps vs
  pub bytes : sum ps + sum vs ≤ length bs
  pub tests : items_tests (lent_items ts ps vs bs) ≡ ok tt
  pub room : o + length (laid_chunks ss cs ts ps vs bs) ≤ space

-- of the lists as the code has them
abbrev pub laid_in : List ℕ → List ℕ → ItemLists → List ℕ
laid_in ss cs l = laid_chunks ss cs l.types.now l.prefixes.now l.values.now l.bytes.now

abbrev pub ChunksFitIn : ℕ → List ℕ → List ℕ → ItemLists → ℕ → Type 0
ChunksFitIn o ss cs l space = ChunksFit o ss cs l.types.now l.prefixes.now l.values.now l.bytes.now space
