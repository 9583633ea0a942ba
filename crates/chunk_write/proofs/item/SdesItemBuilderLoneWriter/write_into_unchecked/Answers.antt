use Rattle.chunk_write.proofs.Items.{priv_fits, plain_fits}
use Rattle.chunk_write.proofs.item.SdesItemBuilderLoneWriter.write_into_unchecked.Goals as goal

pub write_priv-requires : goal.write_priv-requires
write_priv-requires c = let s = c.args.self in priv_fits s.type_ s.prefix.now s.value.now _ c.requires c.if-self-eq-PRIV.true

pub write_other_unchecked-requires : goal.write_other_unchecked-requires
write_other_unchecked-requires c = let s = c.args.self in plain_fits s.type_ s.prefix.now s.value.now _ c.requires c.if-self-eq-PRIV.false
