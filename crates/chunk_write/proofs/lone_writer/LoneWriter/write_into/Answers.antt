use Rattle.rfc3550.proofs.Prelude.{sym, ap, ◌∙◌}
use Rattle.utils.specs.Writer.{written_of}
use Rattle.utils.proofs.WriterPackets.{short_written, done_written}
use Rattle.chunk_write.proofs.Lone.{lone_handed}
use Rattle.chunk_write.proofs.lone_writer.LoneWriter.write_into.Goals as goal

pub returns-in_err-size : goal.returns-in_err-size
returns-in_err-size g c = lone_handed _ _ _ _ c.calculate_size.ensures _ _ c.in_err-size.was c.from_residual.ensures.1

pub returns-then-buf-size : goal.returns-then-buf-size
returns-then-buf-size g c = short_written _ _ _ _ c.calculate_size.ensures _ c.in_ok-size.was c.if-buf-size.true

pub write_into_unchecked-requires : goal.write_into_unchecked-requires
write_into_unchecked-requires g c = record { n = _; is = sym c.calculate_size.ensures ∙ ap written_of c.in_ok-size.was; room = c.if-buf-size.false }

pub returns : goal.returns
returns g c = done_written _ _ _ _ c.calculate_size.ensures _ _ c.in_ok-size.was c.if-buf-size.false c.write_into_unchecked.ensures
