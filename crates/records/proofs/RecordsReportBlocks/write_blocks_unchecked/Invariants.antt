use Rattle.report_write.proofs.Blocks.{Blocks}
use Rattle.records.specs.Records.{records_of}
use Rattle.records.proofs.RecordsReportBlocks.write_blocks_unchecked.Given as goal

abbrev pub invariant-loop-i : goal.invariant-loop-i
invariant-loop-i l = Blocks l.at (records_of l.self.blocks.now) l.initial.buf l.i l.buf
