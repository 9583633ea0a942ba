-- A report's lent lists, its size by what decides, and what stands before its blocks.
use Rattle.std.specs.Prelude.{ℕ, ◌+◌, ◌*◌, ◌≤◌, ◌≡◌, true, List, [], ◌∷◌, length, leb}
use Rattle.rfc3550.specs.Answer.{Answer, ok, need, pick, ◌>>◌}
use Rattle.rfc3550.specs.Bytes.{put, store}
use Rattle.rfc3550.specs.Loss.{Loss, no_loss, loss_in, loss_shown, loss_most}
use Rattle.rfc3550.specs.Packet.{Block, Reporter, receiver, sender, report, type, reporter_widths, reporter_fields}
use Rattle.rfc3550.specs.Write.{BlockLists, blocks_agree, padding_ok}
use Rattle.utils.specs.Writer.{header}
use Rattle.report.specs.declared.report_block.ReportBlock.{ReportBlock}
use Rattle.report_write.specs.declared.report_block.BlockLists as code
use Rattle.report_write.specs.declared.receiver.ReceiverInfo.{ReceiverInfo}
use Rattle.report_write.specs.declared.sender.SenderInfo.{SenderInfo}

abbrev pub receiver_of : ReceiverInfo → Reporter
receiver_of i = receiver i.ssrc

abbrev pub sender_of : SenderInfo → Reporter
sender_of i = sender i.ssrc i.ntp_timestamp i.rtp_timestamp i.packet_count i.octet_count

-- its least length
abbrev pub least_of : Reporter → ℕ
least_of (receiver ssrc) = 8
least_of (sender ssrc ntp rtp packets octets) = 28

-- ---- blocks

abbrev pub block_lists : List ℕ → List Loss → List ℕ → BlockLists
block_lists fs ls ws = record { fractions = fs; losses = ls; words = ws }

abbrev pub lists_in : code.BlockLists → BlockLists
lists_in l = block_lists l.fractions.now l.losses.now l.words.now

abbrev pub block_of : ReportBlock → Block
block_of b = record { ssrc = b.ssrc; fraction = b.fraction_lost; lost = b.cumulative_lost; sequence = b.extended_sequence_number; jitter = b.interarrival_jitter; lsr = b.last_sender_report_timestamp; dlsr = b.delay_since_last_sender_report_timestamp }

-- ---- the size

-- the first loss that does not fit, or else the last one
unfoldable pub later_loss : Loss → Loss → Loss
later_loss x y = pick (loss_in x) y x

unfoldable pub tested_loss : Loss → List Loss → Loss
tested_loss x [] = x
tested_loss x (y ∷ ys) = tested_loss (later_loss x y) ys

-- 18, 11, then 17 by the loss that decides
unfoldable pub counted_size : ℕ → ℕ → Loss → ℕ → Answer ℕ
counted_size least count loss k = do
  need (leb count 31) 18 count 31
  need (padding_ok k) 11 k 0
  need (loss_in loss) 17 (loss_shown loss) loss_most
  ok (least + count * 24 + k)

-- 24 ahead of these
unfoldable pub lists_size : ℕ → BlockLists → ℕ → Answer ℕ
lists_size least l k = do
  need (blocks_agree l) 24 0 0
  counted_size least (length l.fractions) (tested_loss no_loss l.losses) k

-- ---- what is laid

-- what is known of a report of that size that is accepted and has room
pub record ReportFits (least : ℕ) (l : BlockLists) (k n space : ℕ) : Type 0 where
  pub agree : blocks_agree l ≡ true
  pub count : length l.fractions ≤ 31
  pub padding : k ≤ 252
  pub size : n ≡ least + length l.fractions * 24 + k
  pub most : n ≤ 262144
  pub room : n ≤ space

-- what stands before so many blocks
abbrev pub head_laid : Reporter → ℕ → ℕ → ℕ → List ℕ → List ℕ
head_laid r k count size l = store 4 (put (reporter_widths r) (reporter_fields r)) (store 0 (header k count (type (report r [] [])) size) l)
