use Rattle.sdes_chunk.proofs.Items.{prefix_part}
use Rattle.sdes_chunk.proofs.item.SdesItem.priv_prefix.Goals as goal

pub returns : goal.returns
returns c = prefix_part _ _ c.item_of_unchecked-item.ensures c.if-type_-ne-PRIV.false
