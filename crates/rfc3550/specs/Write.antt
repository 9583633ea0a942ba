-- Document 01, "Writing one packet": what a call is given, its order of refusals, the packet that it writes, the buffer afterwards.
use Rattle.std.specs.Prelude.{ℕ, zero, suc, ◌+◌, ◌-◌, ◌*◌, ◌%◌, ◌^◌, ◌<◌, Bool, true, ◌&&◌, ◌||◌, not, List, [], ◌∷◌, ◌++◌, map, length, replicate, get_or, take, drop, leb, eqb}
use Rattle.rfc3550.specs.Answer.{Answer, ok, ◌>>=◌, ◌>>◌, need, after, pick}
use Rattle.rfc3550.specs.Bytes.{Bytes, Fits, sum, store}
use Rattle.rfc3550.specs.Loss.{Loss, no_loss, LossTyped, loss_in, loss_shown, loss_most}
use Rattle.rfc3550.specs.Packet.{Block, Reporter, Item, item, priv, Chunk, Leaving, no_reason, reason, Content, report, sdes, bye, app, Packet, All, reporter_widths, reporter_fields, item_bytes, chunk_bytes, layout}

-- ---- what is given

-- a report's blocks: one fraction lost and one cumulative lost for each, and five words: SSRC, highest sequence number, jitter, last SR, delay
-- since last SR
pub record BlockLists : Type 0 where
  pub fractions : List ℕ
  pub losses : List Loss
  pub words : List ℕ

unfoldable pub lent_blocks : List ℕ → List Loss → List ℕ → List Block
lent_blocks [] ls ws = []
lent_blocks (f ∷ fs) ls ws =
    record { ssrc = get_or ws 0 0; fraction = f; lost = get_or ls 0 no_loss; sequence = get_or ws 1 0; jitter = get_or ws 2 0; lsr = get_or ws 3 0; dlsr = get_or ws 4 0 }
    ∷ lent_blocks fs (drop 1 ls) (drop 5 ws)

abbrev pub blocks_lent : BlockLists → List Block
blocks_lent l = lent_blocks l.fractions l.losses l.words

-- the lists of blocks lent as records
unfoldable pub words_of : List Block → List ℕ
words_of [] = []
words_of (b ∷ bs) = b.ssrc ∷ b.sequence ∷ b.jitter ∷ b.lsr ∷ b.dlsr ∷ words_of bs

abbrev pub lists_of : List Block → BlockLists
lists_of bs = record { fractions = map (λ (b : Block). b.fraction) bs; losses = map (λ (b : Block). b.lost) bs; words = words_of bs }

-- SDES lists: one SSRC and one item count for each chunk; for each item a type, a prefix length and a value length; one run of bytes
pub record Lists : Type 0 where
  pub ssrcs : List ℕ
  pub counts : List ℕ
  pub types : List ℕ
  pub prefixes : List ℕ
  pub values : List ℕ
  pub bytes : List ℕ

-- one item and one chunk as lent
pub record LentItem : Type 0 where
  pub type : ℕ
  pub prefix : List ℕ
  pub value : List ℕ

pub record LentChunk : Type 0 where
  pub ssrc : ℕ
  pub items : List LentItem

-- the run of bytes, item by item, prefix then value
unfoldable pub lent_items : List ℕ → List ℕ → List ℕ → List ℕ → List LentItem
lent_items [] ps vs bs = []
lent_items (t ∷ ts) ps vs bs =
    record { type = t; prefix = take (get_or ps 0 0) bs; value = take (get_or vs 0 0) (drop (get_or ps 0 0) bs) }
    ∷ lent_items ts (drop 1 ps) (drop 1 vs) (drop (get_or ps 0 0 + get_or vs 0 0) bs)

unfoldable pub lent_chunks : List ℕ → List ℕ → List LentItem → List LentChunk
lent_chunks [] ns is = []
lent_chunks (s ∷ ss) ns is = record { ssrc = s; items = take (get_or ns 0 0) is } ∷ lent_chunks ss (drop 1 ns) (drop (get_or ns 0 0) is)

abbrev pub chunks_lent : Lists → List LentChunk
chunks_lent l = lent_chunks l.ssrcs l.counts (lent_items l.types l.prefixes l.values l.bytes)

-- what a packet's call is given; the padding last. An APP: subtype, SSRC, name, data
pub data Given : Type 0 where
  give_report : Reporter → BlockLists → ℕ → Given
  give_sdes : Lists → ℕ → Given
  give_bye : List ℕ → List ℕ → ℕ → Given
  give_app : ℕ → ℕ → List ℕ → List ℕ → ℕ → Given

-- what the types of a call's arguments say of them
abbrev pub Typed : Given → Type 0
Typed (give_report r l k) = Fits (reporter_widths r) (reporter_fields r) × Bytes l.fractions × All LossTyped l.losses × Fits (replicate (length l.words) 4) l.words
Typed (give_sdes l k) = Fits (replicate (length l.ssrcs) 4) l.ssrcs × Bytes l.types × Bytes l.bytes
Typed (give_bye ss r k) = Fits (replicate (length ss) 4) ss × Bytes r
Typed (give_app subtype ssrc name d k) = (ssrc < 256 ^ 4) × Bytes name × Bytes d

-- ---- the packet written of it

-- zero but the last byte, which is the count
abbrev pub padding_bytes : ℕ → List ℕ
padding_bytes zero = []
padding_bytes (suc k) = replicate k 0 ++ (suc k ∷ [])

-- an empty reason is not written; after another, zeros to the boundary
abbrev pub leaving_of : List ℕ → Leaving
leaving_of [] = no_reason
leaving_of (b ∷ bs) = reason (b ∷ bs) (replicate ((4 - (1 + length (b ∷ bs)) % 4) % 4) 0)

-- a prefix lent for an item that is not PRIV is skipped
abbrev pub item_given : LentItem → Item
item_given i = pick (eqb i.type 8) (priv i.prefix i.value) (item i.type i.value)

unfoldable pub items_given : List LentItem → List Item
items_given [] = []
items_given (i ∷ is) = item_given i ∷ items_given is

abbrev pub chunk_given : LentChunk → Chunk
chunk_given c = record { ssrc = c.ssrc; items = items_given c.items }

unfoldable pub chunks_given : List LentChunk → List Chunk
chunks_given [] = []
chunks_given (c ∷ cs) = chunk_given c ∷ chunks_given cs

-- a short name is zero-filled
abbrev pub name_given : List ℕ → List ℕ
name_given name = name ++ replicate (4 - length name) 0

abbrev pub content_given : Given → Content
content_given (give_report r l k) = report r (blocks_lent l) []
content_given (give_sdes l k) = sdes (chunks_given (chunks_lent l))
content_given (give_bye ss r k) = bye ss (leaving_of r)
content_given (give_app subtype ssrc name d k) = app subtype ssrc (name_given name) d

abbrev pub padding_given : Given → ℕ
padding_given (give_report r l k) = k
padding_given (give_sdes l k) = k
padding_given (give_bye ss r k) = k
padding_given (give_app subtype ssrc name d k) = k

abbrev pub packet_given : Given → Packet
packet_given g = record { content = content_given g; padding = padding_bytes (padding_given g) }

-- ---- the order of refusals, first fault wins

abbrev pub padding_ok : ℕ → Bool
padding_ok k = eqb (k % 4) 0 && leb k 252

-- 24: not one loss and five words for each fraction
abbrev pub blocks_agree : BlockLists → Bool
blocks_agree l = eqb (length l.losses) (length l.fractions) && eqb (length l.words) (5 * length l.fractions)

unfoldable pub loss_tests : List Loss → Answer (Unit {0})
loss_tests [] = ok tt
loss_tests (x ∷ xs) = do
  need (loss_in x) 17 (loss_shown x) loss_most
  loss_tests xs

-- the most bytes that a value may have: PRIV's prefix and value share 254
abbrev pub value_most : LentItem → ℕ
value_most i = pick (eqb i.type 8) (254 - length i.prefix) 255

unfoldable pub item_tests : LentItem → Answer (Unit {0})
item_tests i = do
  need (not (eqb i.type 0)) 23 0 0
  need (not (eqb i.type 8) || leb (length i.prefix) 254) 21 (length i.prefix) 254
  need (leb (length i.value) (value_most i)) 20 (length i.value) (value_most i)

unfoldable pub items_tests : List LentItem → Answer (Unit {0})
items_tests [] = ok tt
items_tests (i ∷ is) = do
  item_tests i
  items_tests is

-- 24: paired lists differ in length, the counts don't sum to the items, or the lengths to the bytes
abbrev pub items_agree : List ℕ → List ℕ → List ℕ → List ℕ → Bool
items_agree ts ps vs bs = eqb (length ts) (length ps) && eqb (length ts) (length vs) && eqb (sum ps + sum vs) (length bs)

abbrev pub lists_agree : Lists → Bool
lists_agree l = eqb (length l.ssrcs) (length l.counts) && eqb (sum l.counts) (length l.types) && items_agree l.types l.prefixes l.values l.bytes

abbrev pub ascii : List ℕ → Bool
ascii [] = true
ascii (b ∷ bs) = leb b 127 && ascii bs

unfoldable pub own_tests : Given → Answer (Unit {0})
own_tests (give_report r l k) = do
  need (blocks_agree l) 24 0 0
  need (leb (length l.fractions) 31) 18 (length l.fractions) 31
  need (padding_ok k) 11 k 0
  loss_tests l.losses
own_tests (give_sdes l k) = do
  need (lists_agree l) 24 0 0
  need (leb (length l.ssrcs) 31) 19 (length l.ssrcs) 31
  need (padding_ok k) 11 k 0
  items_tests (lent_items l.types l.prefixes l.values l.bytes)
own_tests (give_bye ss r k) = do
  need (leb (length ss) 31) 15 (length ss) 31
  need (padding_ok k) 11 k 0
  need (leb (length r) 255) 16 (length r) 255
own_tests (give_app subtype ssrc name d k) = do
  need (leb subtype 31) 12 subtype 31
  need (leb (length name) 4 && ascii name) 13 0 0
  need (eqb (length d % 4) 0) 14 (length d) 0
  need (padding_ok k) 11 k 0

abbrev pub size_given : Given → ℕ
size_given g = length (layout (packet_given g))

unfoldable pub tests : Given → Answer (Unit {0})
tests g = do
  own_tests g
  need (leb (size_given g) 262144) 22 0 0

-- the size of what is written, or the refusals through 22
unfoldable pub calculate_size : Given → Answer ℕ
calculate_size g = do
  tests g
  ok (size_given g)

-- ---- lone items and chunks: the bytes and their order

unfoldable pub item_size : LentItem → Answer ℕ
item_size i = do
  item_tests i
  ok (length (item_bytes (item_given i)))

-- a lone chunk of an SSRC and the lists of its items
unfoldable pub chunk_size : ℕ → List ℕ → List ℕ → List ℕ → List ℕ → Answer ℕ
chunk_size ssrc ts ps vs bs = do
  need (items_agree ts ps vs bs) 24 0 0
  items_tests (lent_items ts ps vs bs)
  need (leb (length (chunk_bytes (chunk_given (record { ssrc = ssrc; items = lent_items ts ps vs bs })))) 262140) 22 0 0
  ok (length (chunk_bytes (chunk_given (record { ssrc = ssrc; items = lent_items ts ps vs bs }))))

-- ---- a write into a buffer l: 10 last, with the size; the bytes, and after them the buffer as it was; a refusal changes no byte

unfoldable pub room : Answer ℕ → ℕ → Answer ℕ
room size n = do
  k ← size
  need (leb k n) 10 k 0
  ok k

abbrev pub written : Answer ℕ → List ℕ → List ℕ → Answer ℕ × List ℕ
written size bs l = (room size (length l), after (room size (length l)) (store 0 bs l) l)

unfoldable pub write : Given → List ℕ → Answer ℕ × List ℕ
write g l = written (calculate_size g) (layout (packet_given g)) l

unfoldable pub write_item : LentItem → List ℕ → Answer ℕ × List ℕ
write_item i l = written (item_size i) (item_bytes (item_given i)) l

unfoldable pub write_chunk : ℕ → List ℕ → List ℕ → List ℕ → List ℕ → List ℕ → Answer ℕ × List ℕ
write_chunk ssrc ts ps vs bs l = written (chunk_size ssrc ts ps vs bs) (chunk_bytes (chunk_given (record { ssrc = ssrc; items = lent_items ts ps vs bs }))) l
