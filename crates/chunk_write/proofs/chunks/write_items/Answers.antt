use Rattle.chunk_write.proofs.Laying.{ranges}
use Rattle.chunk_write.proofs.chunks.write_items.Goals as goal

pub write_item_at-end-requires : goal.write_item_at-end-requires
write_item_at-end-requires c = search ranges

pub loop-i-preserved : goal.loop-i-preserved
loop-i-preserved c = search ranges
