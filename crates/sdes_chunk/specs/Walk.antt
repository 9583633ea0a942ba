-- What the walk over a chunk's items hands over.
use Rattle.std.specs.Prelude.{ℕ}
use Rattle.rfc3550.specs.Packet.{Item}
use Rattle.sdes_chunk.specs.declared.item.SdesItem.{SdesItem}
use Rattle.sdes_chunk.specs.declared.chunk.ItemWalk.{ItemWalk}
use Rattle.sdes_chunk.specs.Item.{item_view}

abbrev pub item_walk : ℕ → ItemWalk
item_walk at = record { at = at }

abbrev pub item_stepped : Item × ℕ → SdesItem × ItemWalk
item_stepped x = (item_view x.0, item_walk x.1)
