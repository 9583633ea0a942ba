-- An SDES item, and PRIV:
--
--      0                   1                   2                   3
--      0 1 2 3 4 5 6 7 8 9 0 1 2 3 4 5 6 7 8 9 0 1 2 3 4 5 6 7 8 9 0 1
--     +-+-+-+-+-+-+-+-+-+-+-+-+-+-+-+-+-+-+-+-+-+-+-+-+-+-+-+-+-+-+-+-+
--     |     type      |    length     | value                        ...
--     +-+-+-+-+-+-+-+-+-+-+-+-+-+-+-+-+-+-+-+-+-+-+-+-+-+-+-+-+-+-+-+-+
--     |    PRIV=8     |    length     | prefix length | prefix, value ..
--     +-+-+-+-+-+-+-+-+-+-+-+-+-+-+-+-+-+-+-+-+-+-+-+-+-+-+-+-+-+-+-+-+
--
-- What the code hands over of an item: numbers that its layout fixes.
use Rattle.std.specs.Prelude.{ℕ, ◌+◌, ◌-◌, List, Option, Result, Ok, Err, length, drop, eqb}
use Rattle.std.specs.Borrow.{Bor}
use Rattle.rfc3550.specs.Answer.{Answer, ok, refused, map_ok, pick}
use Rattle.rfc3550.specs.Packet.{Item, item, priv, item_type, item_rest, item_bytes}
use Rattle.rfc3550.specs.Read.{read_item}
use Rattle.rfc3550.specs.Walk.{item_step}
use Rattle.utils.specs.declared.error.RtcpParseError.{RtcpParseError}
use Rattle.utils.specs.Error.{parse_refusal, value_in}
use Rattle.sdes_chunk.specs.declared.item.SdesItem.{SdesItem}

-- ---- views

abbrev pub prefix_length : Item → ℕ
prefix_length (item t v) = 0
prefix_length (priv p v) = length p

abbrev pub item_view : Item → SdesItem
item_view i = record { type_ = item_type i; length = length (item_rest i); prefix_len = prefix_length i }

abbrev pub value_of : Item → List ℕ
value_of (item t v) = v
value_of (priv p v) = v

-- of an item and the bytes after it
abbrev pub item_first : Item × List ℕ → SdesItem
item_first x = item_view x.0

-- how many bytes the item takes
abbrev pub item_size : Item × List ℕ → ℕ
item_size x = length (item_bytes x.0)

-- where an item that stands at `at` ends
abbrev pub item_end : ℕ → Item × List ℕ → ℕ
item_end at x = at + item_size x

-- where the item that stands at `at` ends; None where it is refused
abbrev pub read_end : List ℕ → ℕ → Option ℕ
read_end s at = value_in (map_ok (item_end at) (read_item (drop at s)))

-- where the step over the item at `at` leads; None where there is none
abbrev pub step_end : List ℕ → ℕ → Option ℕ
step_end s at = value_in (map_ok (λ (x : Item × ℕ). x.1) (item_step s at))

-- where the value starts, counted from the item's start
abbrev pub value_start : SdesItem → ℕ
value_start i = pick (eqb i.type_ 8) (3 + i.prefix_len) 2

-- the value ends with the item
abbrev pub value_len : SdesItem → ℕ
value_len i = 2 + i.length - value_start i

-- ---- answers

-- what a function that hands over a part says
abbrev pub part_of : Result (Bor (List ℕ)) RtcpParseError → Answer (List ℕ)
part_of (Ok part) = ok part.now
part_of (Err e) = refused (parse_refusal e)
