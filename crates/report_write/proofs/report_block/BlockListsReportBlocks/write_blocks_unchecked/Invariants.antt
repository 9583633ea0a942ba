use Rattle.rfc3550.proofs.Prelude.{◌*◌, ◌≡◌, length}
use Rattle.rfc3550.specs.Write.{lent_blocks}
use Rattle.report_write.proofs.Blocks.{Blocks}
use Rattle.report_write.proofs.report_block.BlockListsReportBlocks.write_blocks_unchecked.Given as goal

abbrev pub invariant-loop-i : goal.invariant-loop-i
invariant-loop-i l =
    (length l.self.losses.now ≡ length l.self.fractions.now) × (length l.self.words.now ≡ 5 * length l.self.fractions.now) × Blocks l.at (lent_blocks l.self.fractions.now l.self.losses.now l.self.words.now) l.initial.buf l.i l.buf
