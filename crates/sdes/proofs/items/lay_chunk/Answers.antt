use Rattle.sdes.proofs.ItemTurns.{items_has, items_room, chunk_laid}
use Rattle.sdes.proofs.items.lay_chunk.Goals as goal

pub lay_end-place-requires : goal.lay_end-place-requires
lay_end-place-requires c = let e = c in
    (items_has _ _ _ _ _ _ _ e.lay_items-end.ensures.1, e.lay_items-end.ensures.0, items_room _ _ _ _ _ _ _ e.lay_items-end.ensures.1)

pub returns : goal.returns
returns c = chunk_laid _ _ _ _ _ _ _ c.lay_items-end.ensures.1 _ _ c.lay_end-place.ensures
