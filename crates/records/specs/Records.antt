-- Who reports, and the blocks that are lent as records.
use Rattle.std.specs.Prelude.{List, map}
use Rattle.rfc3550.specs.Loss.{Loss, no_loss}
use Rattle.rfc3550.specs.Packet as rfc
use Rattle.rfc3550.specs.Packet.{Block}
use Rattle.rfc3550.specs.Write.{BlockLists, lists_of}
use Rattle.report.specs.declared.report_block.ReportBlock.{ReportBlock}
use Rattle.report_write.specs.Report as lists
use Rattle.report_write.specs.Report.{sender_of, block_of}
use Rattle.records.specs.declared.Records.{Records}
use Rattle.records.specs.declared.Reporter.{Reporter}
use Rattle.records.specs.declared.Reporter.TheVariants as reporter

abbrev pub reporter_of : Reporter → rfc.Reporter
reporter_of (reporter.Receiver ssrc) = rfc.receiver ssrc
reporter_of (reporter.Sender info) = sender_of info

abbrev pub no_block : ReportBlock
no_block = record { ssrc = 0; fraction_lost = 0; cumulative_lost = no_loss; extended_sequence_number = 0; interarrival_jitter = 0; last_sender_report_timestamp = 0; delay_since_last_sender_report_timestamp = 0 }

abbrev pub records_of : List ReportBlock → List Block
records_of bs = map block_of bs

-- the lists that hold the same blocks
abbrev pub lists_in : Records → BlockLists
lists_in r = lists_of (records_of r.blocks.now)

-- the loss that decides
abbrev pub later_of : Loss → ReportBlock → Loss
later_of x b = lists.later_loss x b.cumulative_lost

abbrev pub tested_of : Loss → List ReportBlock → Loss
tested_of x bs = lists.tested_loss x (lists_of (records_of bs)).losses
