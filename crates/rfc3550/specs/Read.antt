-- Document 01, "Reading one packet": the steps in their order, the first refusal wins. Readers of parts give the part and the bytes after it.
use Rattle.std.specs.Prelude.{ℕ, zero, suc, ◌+◌, ◌-◌, ◌*◌, ◌/◌, ◌%◌, Bool, true, false, ◌&&◌, ◌||◌, not, List, [], ◌∷◌, length, replicate, get_or, take, drop, leb, ltb, eqb}
use Rattle.rfc3550.specs.Answer.{Answer, ok, refuse, ◌>>=◌, ◌>>◌, need, pick}
use Rattle.rfc3550.specs.Bytes.{val, get, sum}
use Rattle.rfc3550.specs.Loss.{loss_of}
use Rattle.rfc3550.specs.Packet.{Block, Reporter, receiver, sender, Item, item, priv, Chunk, Leaving, no_reason, reason, Content, report, sdes, bye, app, unknown, Packet, block_widths, receiver_widths, sender_widths, item_bytes, fill, known}

-- ---- the header

pub data Kind : Type 0 where
  SR RR SDES BYE APP UNKNOWN : Kind

abbrev pub least : Kind → ℕ
least SR = 28
least RR = 8
least SDES = 4
least BYE = 4
least APP = 12
least UNKNOWN = 4

-- the kind that a packet is of
abbrev pub kind_for : Content → Kind
kind_for (report (sender ssrc ntp rtp packets octets) bs extension) = SR
kind_for (report (receiver ssrc) bs extension) = RR
kind_for (sdes cs) = SDES
kind_for (bye ss l) = BYE
kind_for (app subtype ssrc name d) = APP
kind_for (unknown t low b) = UNKNOWN

-- the kind that a type and low 5 bits are read as
unfoldable pub kind_of : ℕ → ℕ → Kind
kind_of t low = pick (eqb t 200) SR (pick (eqb t 201) RR (pick (eqb t 202) SDES (pick (eqb t 203) BYE (pick (eqb t 204) APP UNKNOWN))))

abbrev pub of_kind : Kind → ℕ → ℕ → Bool
of_kind SR t low = eqb t 200
of_kind RR t low = eqb t 201
of_kind SDES t low = eqb t 202
of_kind BYE t low = eqb t 203
of_kind APP t low = eqb t 204
of_kind UNKNOWN t low = not (known t low)

-- 6(actual, requested)
abbrev pub requested : Kind → ℕ
requested SR = 200
requested RR = 201
requested SDES = 202
requested BYE = 203
requested APP = 204
requested UNKNOWN = 0

abbrev pub mismatch : Kind → ℕ → ℕ → ℕ × ℕ
mismatch k t low = (t, requested k)

unfoldable pub version_in : List ℕ → ℕ
version_in s = get_or s 0 0 / 64

unfoldable pub padded : List ℕ → Bool
padded s = eqb (get_or s 0 0 / 32 % 2) 1

unfoldable pub low_in : List ℕ → ℕ
low_in s = get_or s 0 0 % 32

unfoldable pub type_in : List ℕ → ℕ
type_in s = get_or s 1 0

-- the stated length L
unfoldable pub stated : List ℕ → ℕ
stated s = 4 * (val (take 2 (drop 2 s)) + 1)

-- with P set the last byte is the padding count
unfoldable pub padding_count : List ℕ → ℕ
padding_count s = pick (padded s) (get_or s (length s - 1) 0) 0

unfoldable pub padding_fits : ℕ → List ℕ → Bool
padding_fits least s = not (padded s) || (ltb 0 (padding_count s) && eqb (padding_count s % 4) 0 && leb (padding_count s + least) (length s))

-- the header's steps, by a least length, the test of the type and what 6 names: they give the length of the body, which is L less the padding
unfoldable pub check_header : ℕ → Bool → ℕ × ℕ → List ℕ → Answer ℕ
check_header least wanted names s = do
  need (leb least (length s)) 2 least (length s)
  need (eqb (version_in s) 2) 1 (version_in s) 0
  need wanted 6 names.0 names.1
  need (leb (stated s) (length s)) 2 (stated s) (length s)
  need (leb (length s) (stated s)) 3 (stated s) (length s)
  need (padding_fits least s) 4 0 0
  ok (length s - padding_count s)

abbrev pub check_packet : Kind → List ℕ → Answer ℕ
check_packet k s = check_header (least k) (of_kind k (type_in s) (low_in s)) (mismatch k (type_in s) (low_in s)) s

-- ---- SR, RR: the blocks

abbrev pub block_from : List ℕ → Block
block_from f = record { ssrc = get_or f 0 0; fraction = get_or f 1 0; lost = loss_of (get_or f 2 0); sequence = get_or f 3 0; jitter = get_or f 4 0; lsr = get_or f 5 0; dlsr = get_or f 6 0 }

unfoldable pub read_blocks : ℕ → List ℕ → List Block
read_blocks zero s = []
read_blocks (suc n) s = block_from (get block_widths s) ∷ read_blocks n (drop 24 s)

abbrev pub receiver_from : List ℕ → Reporter
receiver_from f = receiver (get_or f 0 0)

abbrev pub sender_from : List ℕ → Reporter
sender_from f = sender (get_or f 0 0) (get_or f 1 0) (get_or f 2 0) (get_or f 3 0) (get_or f 4 0)

-- from the bytes of the body after the header: the reporter's fields, n blocks, the extension
unfoldable pub read_report : List ℕ → (List ℕ → Reporter) → ℕ → List ℕ → Answer Content
read_report widths reporter n s = do
  need (leb (4 + sum widths + 24 * n) (4 + length s)) 2 (4 + sum widths + 24 * n) (4 + length s)
  ok (report (reporter (get widths s)) (read_blocks n (drop (sum widths) s)) (drop (sum widths + 24 * n) s))

-- ---- SDES: items, chunks

unfoldable pub item_of : Bool → ℕ → List ℕ → Answer Item
item_of false t v = ok (item t v)
item_of true t [] = refuse 2 3 2
item_of true t (p ∷ v) = do
  need (leb p (length v)) 5 p (length v)
  ok (priv (take p v) (drop p v))

-- the item at the start of the bytes left
unfoldable pub read_item : List ℕ → Answer (Item × List ℕ)
read_item [] = refuse 2 4 0
read_item (t ∷ []) = refuse 2 4 1
read_item (t ∷ len ∷ s) = do
  need (leb len (length s)) 2 (2 + len) (2 + length s)
  i ← item_of (eqb t 8) t (take len s)
  ok (i, drop len s)

-- zeros to the boundary k bytes above `at`
unfoldable pub read_fill : ℕ → ℕ → List ℕ → Answer (List ℕ)
read_fill zero at s = ok s
read_fill (suc k) at [] = refuse 2 (at + suc k) at
read_fill (suc k) at (zero ∷ s) = read_fill k (at + 1) s
read_fill (suc k) at (suc b ∷ s) = refuse 2 (at + suc k) at

-- items until a zero byte; `at` is counted from the chunk's start. An item takes two bytes at least, so the length is enough turns
unfoldable pub read_items : ℕ → ℕ → List ℕ → Answer (List Item × List ℕ)
read_items zero at s = refuse 2 (at + fill at) at
read_items (suc turns) at [] = refuse 2 (at + fill at) at
read_items (suc turns) at (zero ∷ s) = do
  rest ← read_fill (fill at) at (0 ∷ s)
  ok ([], rest)
read_items (suc turns) at (suc t ∷ s) = do
  x ← read_item (suc t ∷ s)
  y ← read_items turns (at + length (item_bytes x.0)) x.1
  ok (x.0 ∷ y.0, y.1)

-- the chunk at the start of the rest of the body
unfoldable pub read_chunk : List ℕ → Answer (Chunk × List ℕ)
read_chunk s = do
  need (leb 4 (length s)) 2 4 (length s)
  x ← read_items (length s) 4 (drop 4 s)
  ok (record { ssrc = val (take 4 s); items = x.0 }, x.1)

-- exactly n chunks in a body of this length
unfoldable pub read_chunks : ℕ → ℕ → List ℕ → Answer (List Chunk)
read_chunks zero body [] = ok []
read_chunks zero body (b ∷ s) = refuse 3 (body - length (b ∷ s)) body
read_chunks (suc n) body s = do
  x ← read_chunk s
  cs ← read_chunks n body x.1
  ok (x.0 ∷ cs)

-- ---- BYE: what follows the sources, which end at `at`

unfoldable pub read_leaving : ℕ → ℕ → List ℕ → Answer Leaving
read_leaving at body [] = ok no_reason
read_leaving at body (len ∷ s) = do
  need (leb len (length s)) 2 (at + 1 + len) body
  ok (reason (take len s) (drop len s))

-- ---- every kind, from the low 5 bits, the type and the bytes of the body after the header

unfoldable pub read_content : Kind → ℕ → ℕ → List ℕ → Answer Content
read_content SR n t s = read_report sender_widths sender_from n s
read_content RR n t s = read_report receiver_widths receiver_from n s
read_content SDES n t s = do
  cs ← read_chunks n (4 + length s) s
  ok (sdes cs)
read_content BYE n t s = do
  need (leb (4 + 4 * n) (4 + length s)) 2 (4 + 4 * n) (4 + length s)
  l ← read_leaving (4 + 4 * n) (4 + length s) (drop (4 * n) s)
  ok (bye (get (replicate n 4) s) l)
read_content APP n t s = ok (app n (val (take 4 s)) (take 4 (drop 4 s)) (drop 8 s))
read_content UNKNOWN n t s = ok (unknown t n s)

-- a packet that is to be of kind k
unfoldable pub read_as : Kind → List ℕ → Answer Packet
read_as k s = do
  body ← check_packet k s
  c ← read_content k (low_in s) (type_in s) (drop 4 (take body s))
  ok (record { content = c; padding = drop body s })

-- ---- a lone block, an index, a prefix: the reading steps first

unfoldable pub read_block : List ℕ → Answer Block
read_block s = do
  need (leb 24 (length s)) 2 24 (length s)
  need (leb (length s) 24) 3 24 (length s)
  ok (block_from (get block_widths s))

-- element i, from 0; 25 past the last
abbrev pub nth : {A : Type 0} → ℕ → List A → Answer A
nth i [] = refuse 25 0 0
nth zero (x ∷ xs) = ok x
nth (suc i) (x ∷ xs) = nth i xs

abbrev pub blocks_of : Content → List Block
blocks_of (report r bs extension) = bs
blocks_of (sdes cs) = []
blocks_of (bye ss l) = []
blocks_of (app subtype ssrc name d) = []
blocks_of (unknown t low b) = []

abbrev pub sources_of : Content → List ℕ
sources_of (report r bs extension) = []
sources_of (sdes cs) = []
sources_of (bye ss l) = ss
sources_of (app subtype ssrc name d) = []
sources_of (unknown t low b) = []

unfoldable pub read_block_at : Kind → List ℕ → ℕ → Answer Block
read_block_at k s i = do
  p ← read_as k s
  nth i (blocks_of p.content)

unfoldable pub read_source_at : List ℕ → ℕ → Answer ℕ
read_source_at s i = do
  p ← read_as BYE s
  nth i (sources_of p.content)

abbrev pub prefix_of : Item → Answer (List ℕ)
prefix_of (item t v) = refuse 30 t 0
prefix_of (priv p v) = ok p

unfoldable pub read_prefix : List ℕ → Answer (List ℕ)
read_prefix s = do
  x ← read_item s
  prefix_of x.0
