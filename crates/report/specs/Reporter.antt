-- What sender and receiver reports have in common: a kind whose content is a report, and what the code keeps of it.
use Rattle.std.specs.Prelude.{ℕ, ◌+◌, ◌≡◌, refl, List, length, eqb}
use Rattle.rfc3550.specs.Bytes.{sum}
use Rattle.rfc3550.specs.Packet.{Block, Reporter, Packet, report, receiver_widths, sender_widths}
use Rattle.rfc3550.specs.Read.{Kind, SR, RR, least, kind_for, type_in, receiver_from, sender_from, read_report, read_content, check_header, check_packet}
use Rattle.report.specs.Report.{report_body, report_blocks, extension_at, receiver_view, sender_view}
use Rattle.report.specs.declared.report.Places.{Places}
use Rattle.report.specs.declared.receiver.ReceiverReport.{ReceiverReport}
use Rattle.report.specs.declared.sender.SenderReport.{SenderReport}

-- a kind whose content is a report: the widths of the fields before the blocks, and who reports
pub record ReporterKind (k : Kind) (ws : List ℕ) (who : List ℕ → Reporter) : Type 0 where
  pub reads : (n t : ℕ) (s : List ℕ) → read_content k n t s ≡ read_report ws who n s
  pub wide : least k ≡ 4 + sum ws
  pub kind : (f : List ℕ) (bs : List Block) (e : List ℕ) → kind_for (report (who f) bs e) ≡ k

pub sender_maker : ReporterKind SR sender_widths sender_from
unfolding read_content sum
sender_maker = record { reads = λ n t s. refl; wide = refl; kind = λ f bs e. refl }

pub receiver_maker : ReporterKind RR receiver_widths receiver_from
unfolding read_content sum
receiver_maker = record { reads = λ n t s. refl; wide = refl; kind = λ f bs e. refl }

abbrev pub places_of : Packet → Places
places_of p = record { n_reports = length (report_blocks p); extension = extension_at p.content; body = report_body p }

abbrev pub receiver_places : ReceiverReport → Places
receiver_places r = record { n_reports = r.n_reports; extension = r.extension; body = r.body }

abbrev pub sender_places : SenderReport → Places
sender_places r = record { n_reports = r.n_reports; extension = r.extension; body = r.body }

-- what a type that is read as a report keeps: its least length and its type are those of the kind, and its places those of the packet
pub record ReportLaws (k : Kind) (min type : ℕ) {R : Type 0} (view : Packet → R) (places : R → Places) : Type 0 where
  pub widths : List ℕ
  pub who : List ℕ → Reporter
  pub maker : ReporterKind k widths who
  pub least_len : min ≡ least k
  pub checked : (s : List ℕ) → check_header min (eqb (type_in s) type) (type_in s, type) s ≡ check_packet k s
  pub seen : (p : Packet) → places (view p) ≡ places_of p

pub receiver_laws : ReportLaws RR 8 201 receiver_view receiver_places
receiver_laws = record { widths = receiver_widths; who = receiver_from; maker = receiver_maker; least_len = refl; checked = λ s. refl; seen = λ p. refl }

pub sender_laws : ReportLaws SR 28 200 sender_view sender_places
sender_laws = record { widths = sender_widths; who = sender_from; maker = sender_maker; least_len = refl; checked = λ s. refl; seen = λ p. refl }
