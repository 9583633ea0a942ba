-- Steps of a walk over the items of a chunk, and the item of the definitions from what a step hands over and the bytes that it was lent.
use Rattle.std.specs.Prelude.{ℕ, ◌+◌, ◌-◌, ◌≡◌, List, take, drop, eqb, Result}
use Rattle.rfc3550.specs.Answer.{map_ok, pick}
use Rattle.rfc3550.specs.Packet.{Item, item, priv}
use Rattle.rfc3550.specs.Walk.{item_step, walk_after}
use Rattle.rfc3550.specs.Returned.{Stepper}
use Rattle.utils.specs.Error.{parsed_of}
use Rattle.utils.specs.declared.error.RtcpParseError.{RtcpParseError}
use Rattle.sdes_chunk.specs.Item.{item_view}
use Rattle.sdes_chunk.specs.Walk.{item_stepped}
use Rattle.sdes_chunk.specs.declared.item.SdesItem.{SdesItem}
use Rattle.sdes_chunk.specs.declared.chunk.ItemWalk.{ItemWalk}

-- the ensures of `ItemWalk::step` on the bytes s, and the walk that is left
abbrev pub item_steps : List ℕ → Stepper
item_steps s = record { H = ItemWalk; R = Result (SdesItem × ItemWalk) RtcpParseError; Meets = λ self r. parsed_of r ≡ map_ok item_stepped (item_step s self.at); next = λ self r. walk_after self (parsed_of r) }

-- of an item that stands at `at`
abbrev pub item_from : List ℕ → ℕ → SdesItem → Item
item_from s at i =
    pick (eqb i.type_ 8)
    (priv (take i.prefix_len (drop (at + 3) s)) (take (i.length - 1 - i.prefix_len) (drop (at + 3 + i.prefix_len) s)))
    (item i.type_ (take i.length (drop (at + 2) s)))

-- what is seen of an answer: the numbers, and the item
abbrev pub item_seen : List ℕ → ItemWalk → SdesItem × ItemWalk → SdesItem × Item
item_seen s w x = (x.0, item_from s w.at x.0)

abbrev pub item_is : Item → SdesItem × Item
item_is i = (item_view i, i)
