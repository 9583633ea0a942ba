-- The interpretations lose nothing.
use Rattle.rfc3550.proofs.Prelude.{◌≡◌, refl, sym, ap, ℕ, List, [], ◌∷◌, nil≢cons, cons≢nil, head-eq_of_cons-eq, tail-eq_of_cons-eq}
use Rattle.rfc3550.specs.Packet as rfc
use Rattle.report.specs.declared.report_block.ReportBlock.{ReportBlock}
use Rattle.report_write.specs.declared.receiver.ReceiverInfo.{ReceiverInfo}
use Rattle.report_write.specs.Report.{block_of}
use Rattle.report_write.proofs.Reports.{receiver≢sender, sender_of_injective}
use Rattle.records.specs.declared.Reporter.{Reporter}
use Rattle.records.specs.declared.Reporter.TheVariants as reporter
use Rattle.records.specs.Records.{reporter_of, records_of}

pub block_of_injective : (b c : ReportBlock) → block_of b ≡ block_of c → b ≡ c
block_of_injective b c h =
    λ i. record { ssrc = (h i).ssrc; fraction_lost = (h i).fraction; cumulative_lost = (h i).lost; extended_sequence_number = (h i).sequence; interarrival_jitter = (h i).jitter; last_sender_report_timestamp = (h i).lsr; delay_since_last_sender_report_timestamp = (h i).dlsr }

pub records_of_injective : (bs cs : List ReportBlock) → records_of bs ≡ records_of cs → bs ≡ cs
records_of_injective [] [] e = refl
records_of_injective [] (c ∷ cs) e = absurd (nil≢cons e)
records_of_injective (b ∷ bs) [] e = absurd (cons≢nil e)
records_of_injective (b ∷ bs) (c ∷ cs) e = λ i. block_of_injective b c (head-eq_of_cons-eq e) i ∷ records_of_injective bs cs (tail-eq_of_cons-eq e) i

abbrev receiver_with : ℕ → ReceiverInfo
receiver_with ssrc = record { ssrc = ssrc }

abbrev ssrc_in : rfc.Reporter → ℕ
ssrc_in (rfc.receiver ssrc) = ssrc
ssrc_in (rfc.sender ssrc ntp rtp packets octets) = ssrc

pub reporter_of_injective : (p q : Reporter) → reporter_of p ≡ reporter_of q → p ≡ q
reporter_of_injective (reporter.Receiver a) (reporter.Receiver b) e = ap reporter.Receiver (ap ssrc_in e)
reporter_of_injective (reporter.Receiver a) (reporter.Sender j) e = absurd (receiver≢sender (receiver_with a) j e)
reporter_of_injective (reporter.Sender i) (reporter.Receiver b) e = absurd (receiver≢sender (receiver_with b) i (sym e))
reporter_of_injective (reporter.Sender i) (reporter.Sender j) e = ap reporter.Sender (sender_of_injective i j e)
