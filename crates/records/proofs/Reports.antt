-- The cases of blocks lent as records: the loss that decides, what is said of a report of them, and their bytes, laid one after the other.
use Rattle.std.specs.Prelude.{Option, None}
use Rattle.std.proofs.lemmas.List.{drop-map}
use Rattle.rfc3550.proofs.Prelude.{rules, ℕ, suc, ◌+◌, ◌-◌, ◌*◌, ◌<◌, ◌≤◌, ◌≡◌, refl, sym, ap, ◌∙◌, List, [], ◌∷◌, ◌++◌, add-one, arith, length, drop, get_or, length-map, drop-cons}
use lib.Signed.{mag}
use mir.Syntax.{w32}
use mir.Val.{to_z, of_z}
use Rattle.rfc3550.specs.Answer.{Refusal, refused, need, ◌>>◌}
use Rattle.rfc3550.specs.Bytes.{put, store}
use Rattle.rfc3550.specs.Loss.{Loss, no_loss}
use Rattle.rfc3550.specs.Packet.{Block, block_widths, block_fields, blocks_bytes}
use Rattle.rfc3550.specs.Write.{blocks_lent, lists_of}
use Rattle.rfc3550.proofs.Writes.{blocks_lent_lists_of, blocks_agree_lists_of}
use Rattle.utils.specs.Error.{value_in}
use Rattle.report.specs.declared.report_block.ReportBlock.{ReportBlock}
use Rattle.report.proofs.Losses.{bits_back}
use Rattle.report_write.specs.Report.{block_of, tested_loss, counted_size, lists_size}
use Rattle.report_write.proofs.Blocks.{Blocks, blocks_start, blocks_room, block_next, blocks_laid}
use Rattle.records.specs.Records.{no_block, records_of, later_of, tested_of}

-- ---- the losses

loss_push : (x : Loss) (bs : List ReportBlock) (b : ReportBlock) → tested_of x (bs ++ (b ∷ [])) ≡ later_of (tested_of x bs) b
unfolding tested_loss
loss_push x [] b = refl
loss_push x (c ∷ bs) b = loss_push (later_of x c) bs b

pub loss_more : (bs : List ReportBlock) (x y : Loss) (b : ReportBlock) → x ≡ tested_of no_loss bs → y ≡ later_of x b → y ≡ tested_of no_loss (bs ++ (b ∷ []))
loss_more bs x y b e f = f ∙ rw (e, loss_push no_loss bs b)

-- ---- the size

module _ (bs : List ReportBlock) where
  pub count_is : length bs ≡ length (lists_of (records_of bs)).fractions
  count_is = sym (length-map (records_of bs) (λ (b : Block). b.fraction) ∙ length-map bs block_of)

  module _ (k : ℕ) where
    lent_size : (least : ℕ) → counted_size least (length bs) (tested_of no_loss bs) k ≡ lists_size least (lists_of (records_of bs)) k
    unfolding lists_size need ◌>>◌
    lent_size least = rw (blocks_agree_lists_of (records_of bs), count_is)

    module _ (x : Loss) (g : mag x < 2147483648) (f : x ≡ tested_of no_loss bs) where
      lent_counted : (least : ℕ) → counted_size least (length bs) (to_z w32 (of_z w32 x)) k ≡ lists_size least (lists_of (records_of bs)) k
      lent_counted least = ap (λ (y : Loss). counted_size least (length bs) y k) (bits_back x g ∙ f) ∙ lent_size least

      pub records_size : (least : ℕ) (o : Option ℕ) → o ≡ value_in (counted_size least (length bs) (to_z w32 (of_z w32 x)) k) → o ≡ value_in (lists_size least (lists_of (records_of bs)) k)
      records_size least o h = h ∙ ap value_in (lent_counted least)

      pub records_none : value_in (lists_size 0 (lists_of (records_of bs)) k) ≡ None → value_in (counted_size 0 (length bs) (to_z w32 (of_z w32 x)) k) ≡ None
      records_none z = ap value_in (lent_counted 0) ∙ z

      pub records_why : (r : Refusal) → refused r ≡ counted_size 0 (length bs) (to_z w32 (of_z w32 x)) k → refused r ≡ lists_size 0 (lists_of (records_of bs)) k
      records_why r h = h ∙ lent_counted 0

-- ---- the records, one after the other

module _ (at : ℕ) (bs : List ReportBlock) (l : List ℕ) where
  pub records_start : Blocks at (records_of bs) l 0 l
  records_start = blocks_start at (records_of bs) l

  module _ (i : ℕ) (l₁ : List ℕ) (w : Blocks at (records_of bs) l i l₁) where
    module _ (f : at + length (lists_of (records_of bs)).fractions * 24 ≤ length l) (h : i < length bs) where
      record_next : drop i (records_of bs) ≡ block_of (get_or bs i no_block) ∷ drop (i + 1) (records_of bs)
      record_next = rw (add-one i, drop-map block_of i bs, drop-map block_of (suc i) bs, drop-cons bs i no_block h)

      pub records_room : at + i * 24 + 24 ≤ length l₁
      records_room = let n = length-map bs block_of in let c = count_is bs in blocks_room at (records_of bs) l i l₁ w (omega arith) (omega arith)

      pub records_again : (l₂ : List ℕ) → l₂ ≡ store (at + i * 24) (put block_widths (block_fields (block_of (get_or bs i no_block)))) l₁ → Blocks at (records_of bs) l (i + 1) l₂
      records_again l₂ e = let n = length-map bs block_of in let c = count_is bs in block_next at (records_of bs) l i l₁ w (block_of (get_or bs i no_block)) record_next l₂ (omega arith) (omega arith) e

    pub records_done : length bs ≤ i → l₁ ≡ store at (blocks_bytes (blocks_lent (lists_of (records_of bs)))) l
    records_done h = let n = length-map bs block_of in blocks_laid at (records_of bs) l i l₁ w (omega arith) ∙ ap (λ (cs : List Block). store at (blocks_bytes cs) l) (sym (blocks_lent_lists_of (records_of bs)))

pub ruleset records = (rules, count_is, records_size, records_none, records_why, records_start, records_room, records_again, records_done)
