-- Document 01, "What demand 3 compares", Packets: a packet, its layout, which packets are valid, and the rules of a compound.
--
--      0                   1                   2                   3
--      0 1 2 3 4 5 6 7 8 9 0 1 2 3 4 5 6 7 8 9 0 1 2 3 4 5 6 7 8 9 0 1
--     +-+-+-+-+-+-+-+-+-+-+-+-+-+-+-+-+-+-+-+-+-+-+-+-+-+-+-+-+-+-+-+-+
--     |V=2|P| low 5   |     type      |     length in words less 1    |
--     +-+-+-+-+-+-+-+-+-+-+-+-+-+-+-+-+-+-+-+-+-+-+-+-+-+-+-+-+-+-+-+-+
--     |   the fields in reading order, then the padding               |
--     +-+-+-+-+-+-+-+-+-+-+-+-+-+-+-+-+-+-+-+-+-+-+-+-+-+-+-+-+-+-+-+-+
use Rattle.std.specs.Prelude.{ℕ, ◌+◌, ◌-◌, ◌/◌, ◌%◌, ◌^◌, ◌<◌, ◌≡◌, ◌≢◌, Bool, true, false, ◌&&◌, ◌||◌, List, [], ◌∷◌, ◌++◌, length, replicate, get_or, leb, eqb}
use Rattle.rfc3550.specs.Bytes.{Bytes, be, put, Fits}
use Rattle.rfc3550.specs.Loss.{Loss, loss_bits, LossFits}

-- ---- a packet is its kind, the fields read and its padding bytes

pub record Block : Type 0 where
  pub ssrc : ℕ
  pub fraction : ℕ
  pub lost : Loss
  pub sequence : ℕ
  pub jitter : ℕ
  pub lsr : ℕ
  pub dlsr : ℕ

-- who reports: of an RR its SSRC; of an SR also NTP time, RTP time, packet count and octet count
pub data Reporter : Type 0 where
  receiver : ℕ → Reporter
  sender : ℕ → ℕ → ℕ → ℕ → ℕ → Reporter

-- an item's type and value; of PRIV the prefix and the value
pub data Item : Type 0 where
  item : ℕ → List ℕ → Item
  priv : List ℕ → List ℕ → Item

pub record Chunk : Type 0 where
  pub ssrc : ℕ
  pub items : List Item

-- what follows a BYE's sources: nothing, or a reason and the tail
pub data Leaving : Type 0 where
  no_reason : Leaving
  reason : List ℕ → List ℕ → Leaving

-- a report has its extension last; an APP has its subtype, SSRC, name and data; an unknown packet its type, low 5 bits and body after the header
pub data Content : Type 0 where
  report : Reporter → List Block → List ℕ → Content
  sdes : List Chunk → Content
  bye : List ℕ → Leaving → Content
  app : ℕ → ℕ → List ℕ → List ℕ → Content
  unknown : ℕ → ℕ → List ℕ → Content

pub record Packet : Type 0 where
  pub content : Content
  pub padding : List ℕ

-- ---- the layout

abbrev pub block_widths : List ℕ
block_widths = 4 ∷ 1 ∷ 3 ∷ 4 ∷ 4 ∷ 4 ∷ 4 ∷ []

abbrev pub block_fields : Block → List ℕ
block_fields b = b.ssrc ∷ b.fraction ∷ loss_bits b.lost ∷ b.sequence ∷ b.jitter ∷ b.lsr ∷ b.dlsr ∷ []

unfoldable pub blocks_bytes : List Block → List ℕ
blocks_bytes [] = []
blocks_bytes (b ∷ bs) = put block_widths (block_fields b) ++ blocks_bytes bs

abbrev pub receiver_widths : List ℕ
receiver_widths = 4 ∷ []

abbrev pub sender_widths : List ℕ
sender_widths = 4 ∷ 8 ∷ 4 ∷ 4 ∷ 4 ∷ []

abbrev pub reporter_widths : Reporter → List ℕ
reporter_widths (receiver ssrc) = receiver_widths
reporter_widths (sender ssrc ntp rtp packets octets) = sender_widths

abbrev pub reporter_fields : Reporter → List ℕ
reporter_fields (receiver ssrc) = ssrc ∷ []
reporter_fields (sender ssrc ntp rtp packets octets) = ssrc ∷ ntp ∷ rtp ∷ packets ∷ octets ∷ []

-- an item is type, length of the rest, in PRIV prefix length and prefix, then value
abbrev pub item_type : Item → ℕ
item_type (item t v) = t
item_type (priv p v) = 8

abbrev pub item_rest : Item → List ℕ
item_rest (item t v) = v
item_rest (priv p v) = length p ∷ (p ++ v)

abbrev pub item_bytes : Item → List ℕ
item_bytes i = item_type i ∷ length (item_rest i) ∷ item_rest i

unfoldable pub items_bytes : List Item → List ℕ
items_bytes [] = []
items_bytes (i ∷ is) = item_bytes i ++ items_bytes is

-- from a position to the next word boundary above it: 1 to 4
abbrev pub fill : ℕ → ℕ
fill at = 4 - at % 4

-- a chunk closes with 1 to 4 zeros, to the boundary
unfoldable pub chunk_bytes : Chunk → List ℕ
chunk_bytes c = be 4 c.ssrc ++ (items_bytes c.items ++ replicate (fill (4 + length (items_bytes c.items))) 0)

unfoldable pub chunks_bytes : List Chunk → List ℕ
chunks_bytes [] = []
chunks_bytes (c ∷ cs) = chunk_bytes c ++ chunks_bytes cs

-- a reason has its length before it; a tail follows only a reason
abbrev pub leaving_bytes : Leaving → List ℕ
leaving_bytes no_reason = []
leaving_bytes (reason r tail) = length r ∷ (r ++ tail)

-- the bytes between the header and the padding
unfoldable pub content_bytes : Content → List ℕ
content_bytes (report r bs extension) = put (reporter_widths r) (reporter_fields r) ++ (blocks_bytes bs ++ extension)
content_bytes (sdes cs) = chunks_bytes cs
content_bytes (bye ss l) = put (replicate (length ss) 4) ss ++ leaving_bytes l
content_bytes (app subtype ssrc name d) = be 4 ssrc ++ (name ++ d)
content_bytes (unknown t low b) = b

abbrev pub low_bits : Content → ℕ
low_bits (report r bs extension) = length bs
low_bits (sdes cs) = length cs
low_bits (bye ss l) = length ss
low_bits (app subtype ssrc name d) = subtype
low_bits (unknown t low b) = low

abbrev pub type : Content → ℕ
type (report (sender ssrc ntp rtp packets octets) bs extension) = 200
type (report (receiver ssrc) bs extension) = 201
type (sdes cs) = 202
type (bye ss l) = 203
type (app subtype ssrc name d) = 204
type (unknown t low b) = t

-- P, bit 0x20, exactly if padded
abbrev pub padding_bit : List ℕ → ℕ
padding_bit [] = 0
padding_bit (b ∷ bs) = 32

unfoldable pub layout : Packet → List ℕ
layout p =
    (128 + padding_bit p.padding + low_bits p.content)
    ∷ type p.content
    ∷ (be 2 ((length (content_bytes p.content) + length p.padding) / 4) ++ (content_bytes p.content ++ p.padding))

-- packets laid end to end
unfoldable pub layouts : List Packet → List ℕ
layouts [] = []
layouts (p ∷ ps) = layout p ++ layouts ps

-- ---- valid: only the fields' widths bind, and what the layout says

abbrev pub All : {A : Type 0} → (A → Type 0) → List A → Type 0
All P [] = Unit {0}
All P (x ∷ xs) = P x × All P xs

abbrev pub BlockValid : Block → Type 0
BlockValid b = Fits block_widths (block_fields b) × LossFits b.lost

abbrev pub ItemValid : Item → Type 0
ItemValid (item t v) = (0 < t) × (t < 256) × (t ≢ 8) × (length v < 256) × Bytes v
ItemValid (priv p v) = (length p + length v < 255) × Bytes p × Bytes v

abbrev pub ChunkValid : Chunk → Type 0
ChunkValid c = (c.ssrc < 256 ^ 4) × All ItemValid c.items

abbrev pub LeavingValid : Leaving → Type 0
LeavingValid no_reason = Unit {0}
LeavingValid (reason r tail) = (length r < 256) × Bytes r × Bytes tail

-- the types that have a layout of their own, by type and low 5 bits
abbrev pub known : ℕ → ℕ → Bool
known t low = leb 200 t && leb t 204

abbrev pub ContentValid : Content → Type 0
ContentValid (report r bs extension) = Fits (reporter_widths r) (reporter_fields r) × All BlockValid bs × Bytes extension
ContentValid (sdes cs) = All ChunkValid cs
ContentValid (bye ss l) = Fits (replicate (length ss) 4) ss × LeavingValid l
ContentValid (app subtype ssrc name d) = (ssrc < 256 ^ 4) × (length name ≡ 4) × Bytes name × Bytes d
ContentValid (unknown t low b) = (known t low ≡ false) × (t < 256) × Bytes b

-- none, or k bytes, the last of them k, k a multiple of 4
abbrev pub PaddingValid : List ℕ → Type 0
PaddingValid padding = (length padding % 4 ≡ 0) × (get_or padding (length padding - 1) 0 ≡ length padding) × Bytes padding

-- a packet is full words, and its length field has 16 bits
pub record Valid (p : Packet) : Type 0 where
  pub content : ContentValid p.content
  pub low : low_bits p.content < 32
  pub padding : PaddingValid p.padding
  pub words : (length (content_bytes p.content) + length p.padding) % 4 ≡ 0
  pub size : length (content_bytes p.content) + length p.padding < 262144

-- ---- "Compounds": the first packet is SR or RR, some SDES chunk has a CNAME, only the last packet has P

abbrev pub is_report : ℕ → Bool
is_report t = eqb t 200 || eqb t 201

-- the type and the length of the value of an item that is a CNAME
abbrev pub is_cname : ℕ → ℕ → Bool
is_cname t len = eqb t 1

abbrev pub some : {A : Type 0} → (A → Bool) → List A → Bool
some f [] = false
some f (x ∷ xs) = f x || some f xs

abbrev pub chunks_of : Content → List Chunk
chunks_of (report r bs extension) = []
chunks_of (sdes cs) = cs
chunks_of (bye ss l) = []
chunks_of (app subtype ssrc name d) = []
chunks_of (unknown t low b) = []

abbrev pub chunk_has_cname : Chunk → Bool
chunk_has_cname c = some (λ (i : Item). is_cname (item_type i) (length (item_rest i))) c.items

abbrev pub has_cname : Packet → Bool
has_cname p = some chunk_has_cname (chunks_of p.content)

abbrev pub starts_with_report : List Packet → Bool
starts_with_report [] = false
starts_with_report (p ∷ ps) = is_report (type p.content)

abbrev pub OnlyLastPadded : List Packet → Type 0
OnlyLastPadded [] = Unit {0}
OnlyLastPadded (p ∷ []) = Unit {0}
OnlyLastPadded (p ∷ q ∷ ps) = (p.padding ≡ []) × OnlyLastPadded (q ∷ ps)

pub record Compound (ps : List Packet) : Type 0 where
  pub valid : All Valid ps
  pub report : starts_with_report ps ≡ true
  pub cname : some has_cname ps ≡ true
  pub padding : OnlyLastPadded ps
