-- Report blocks: their losses, by the one that decides, and their bytes, laid one after the other. A turn of a loop takes the next one off.
use Rattle.rfc3550.proofs.Prelude.{ℕ, zero, suc, ◌+◌, ◌-◌, ◌*◌, ◌/◌, ◌%◌, ◌<◌, ◌≤◌, ◌≡◌, refl, sym, ap, ◌∙◌, Bool, true, false, List, [], ◌∷◌, ◌++◌, add-zero, add_assoc, add-one, arith, not-true, not-false, le-leb, lt-leb, leb-true, leb-false, eq-eqb, ne_eqb, eqb-true, eqb-false, length, drop, get_or, length-append, length-drop, drop_of_length-le, drop-cons, get_or-drop, bit_or, or_add_and, and_le_l, and_le_r, or_lt, leb, eqb}
use lib.IntN.{pos}
use lib.Signed.{mag}
use mir.Syntax.{w32}
use mir.Val.{to_z, of_z, SFits}
use mir.ValLaws.{to_z_pos}
use Rattle.rfc3550.specs.Answer.{ok, need, pick, ◌>>◌}
use Rattle.rfc3550.specs.Bytes.{be, put, store}
use Rattle.rfc3550.proofs.Losses.{loss_bits_lt}
use Rattle.rfc3550.specs.Loss.{Loss, no_loss, loss_bits, loss_in, loss_shown, loss_most}
use Rattle.rfc3550.specs.Packet.{Block, block_widths, block_fields, blocks_bytes}
use Rattle.rfc3550.specs.Write.{lent_blocks, blocks_agree, loss_tests}
use Rattle.rfc3550.proofs.Answers.{and_inv}
use Rattle.rfc3550.proofs.Bytes.{length_store}
use Rattle.rfc3550.proofs.Writes.{length_lent_blocks}
use Rattle.report.specs.declared.report_block.ReportBlock.{ReportBlock}
use Rattle.report.proofs.Losses.{bits_back, by_magnitude}
use Rattle.utils.proofs.WriterCases.{writer}
use Rattle.utils.proofs.WriterStores.{store_nil, store_store, stores, be_cons, be_one}
use Rattle.report_write.specs.Report.{block_lists, block_of, later_loss, tested_loss}

-- ---- the loss that decides

module _ (x y : Loss) (f : mag x < 2147483648) (t : Bool) (e : t ≡ loss_in (to_z w32 (of_z w32 x))) where
  decided : (b : Bool) → t ≡ b → pick b y x ≡ later_loss x y
  unfolding later_loss
  decided b q = ap (λ (b : Bool). pick b y x) (sym q ∙ e ∙ ap loss_in (bits_back x f))

  pub later_next : mag y < 2147483648 → t ≡ true → to_z w32 (of_z w32 y) ≡ later_loss x y
  later_next g q = bits_back y g ∙ decided true q

  pub later_kept : t ≡ false → to_z w32 (of_z w32 x) ≡ later_loss x y
  later_kept q = bits_back x f ∙ decided false q

-- what decides of one loss more
tested_push : (x : Loss) (ys : List Loss) (y : Loss) → tested_loss x (ys ++ (y ∷ [])) ≡ later_loss (tested_loss x ys) y
unfolding tested_loss
tested_push x [] y = refl
tested_push x (z ∷ ys) y = tested_push (later_loss x z) ys y

pub tested_more : (ys : List Loss) (x y z : Loss) → x ≡ tested_loss no_loss ys → z ≡ later_loss x y → z ≡ tested_loss no_loss (ys ++ (y ∷ []))
tested_more ys x y z e f = f ∙ rw (e, tested_push no_loss ys y)

-- the magnitudes of two, merged, fit exactly if both do
or_most_l : (a b : ℕ) → a ≤ bit_or a b
or_most_l a b =
    let e = or_add_and a b in
    let h = and_le_r a b in
    omega arith

or_most_r : (a b : ℕ) → b ≤ bit_or a b
or_most_r a b =
    let e = or_add_and a b in
    let h = and_le_l a b in
    omega arith

merged_fits : (m : ℕ) (z : Loss) → loss_in (pos (bit_or m (mag z))) ≡ loss_in (later_loss (pos m) z)
unfolding loss_in later_loss
merged_fits m z = go (leb m 8388607) refl (leb (mag z) 8388607) refl
  where
    n : ℕ
    n = mag z

    go : (a : Bool) → leb m 8388607 ≡ a → (b : Bool) → leb n 8388607 ≡ b → leb (bit_or m n) 8388607 ≡ loss_in (pick a z (pos m))
    go false p b q = let f = leb-false m 8388607 p in let g = or_most_l m n in rw (p, lt-leb (bit_or m n) 8388607 (omega arith))
    go true p false q = let f = leb-false n 8388607 q in let g = or_most_r m n in lt-leb (bit_or m n) 8388607 (omega arith) ∙ sym q ∙ by_magnitude z
    go true p true q = let f = leb-true m 8388607 p in let h = leb-true n 8388607 q in let g = or_lt 23 m n (omega arith) (omega arith) in le-leb (bit_or m n) 8388607 (omega arith) ∙ sym q ∙ by_magnitude z

-- what decides goes by whether the loss so far fits, and by it where it does not
tested_over : (x : Loss) (xs : List Loss) → loss_in x ≡ false → tested_loss x xs ≡ x
unfolding tested_loss later_loss
tested_over x [] h = refl
tested_over x (y ∷ ys) h = rw h (tested_over x ys h)

tested_same : (x y : Loss) (xs : List Loss) → loss_in x ≡ loss_in y → loss_in (tested_loss x xs) ≡ loss_in (tested_loss y xs)
unfolding tested_loss later_loss
tested_same x y [] h = h
tested_same x y (z ∷ zs) h = go (loss_in x) (loss_in y) h (tested_same x y zs h)
  where
    go : (a b : Bool) → a ≡ b → loss_in (tested_loss x zs) ≡ loss_in (tested_loss y zs) → loss_in (tested_loss (pick a z x) zs) ≡ loss_in (tested_loss (pick b z y) zs)
    go true b p e = rw (← p)
    go false b p e = rw (← p) e

-- the merged magnitudes of the first i losses
pub record Merged (xs : List Loss) (i bits : ℕ) : Type 0 where
  pub small : bits < 2147483648
  pub rest : loss_in (tested_loss (pos bits) (drop i xs)) ≡ loss_in (tested_loss no_loss xs)

module _ (xs : List Loss) where
  pub merged_start : Merged xs 0 0
  merged_start = record { small = omega arith; rest = refl }

  module _ (i m : ℕ) (w : Merged xs i m) where
    pub merged_again : (n : ℕ) → i < length xs → mag (get_or xs i no_loss) < 2147483648 → n ≡ mag (to_z w32 (of_z w32 (get_or xs i no_loss))) → n < 2147483648 → Merged xs (i + 1) (bit_or m n)
    unfolding tested_loss
    merged_again n h f e k =
        let q : n ≡ mag (get_or xs i no_loss) = e ∙ ap mag (bits_back (get_or xs i no_loss) f) in
        record {
          small = or_lt 31 m n w.small k;
          rest = rw (add-one, q) (tested_same (pos (bit_or m (mag (get_or xs i no_loss)))) (later_loss (pos m) (get_or xs i no_loss)) (drop (suc i) xs) (merged_fits m (get_or xs i no_loss)) ∙ (rw (drop-cons xs i no_loss h) at w.rest));
        }

    pub merged_signed : SFits w32 (pos m)
    merged_signed = record { sfits = w.small }

    pub merged_done : length xs ≤ i → loss_in (to_z w32 m) ≡ loss_in (tested_loss no_loss xs)
    unfolding tested_loss
    merged_done h = let z : drop i xs ≡ [] = drop_of_length-le xs {i = i} h in ap loss_in (to_z_pos w32 m w.small) ∙ (rw z at w.rest)

-- one loss decides for all
over_first : (x : Loss) (xs : List Loss) → (need (loss_in x) 17 (loss_shown x) loss_most >> loss_tests xs) ≡ need (loss_in (tested_loss x xs)) 17 (loss_shown (tested_loss x xs)) loss_most
unfolding loss_tests tested_loss later_loss need ◌>>◌
over_first x [] = go (loss_in x)
  where
    go : (t : Bool) → (need t 17 (loss_shown x) loss_most >> ok tt) ≡ need t 17 (loss_shown x) loss_most
    go true = refl
    go false = refl
over_first x (y ∷ ys) = go (loss_in x) refl (over_first y ys)
  where
    go : (t : Bool) → loss_in x ≡ t → (need (loss_in y) 17 (loss_shown y) loss_most >> loss_tests ys) ≡ need (loss_in (tested_loss y ys)) 17 (loss_shown (tested_loss y ys)) loss_most
        → (need t 17 (loss_shown x) loss_most >> (need (loss_in y) 17 (loss_shown y) loss_most >> loss_tests ys)) ≡ need (loss_in (tested_loss (pick t y x) ys)) 17 (loss_shown (tested_loss (pick t y x) ys)) loss_most
    go true p e = e
    go false p e = rw (tested_over x ys p, p)

pub losses_decided : (xs : List Loss) → loss_tests xs ≡ need (loss_in (tested_loss no_loss xs)) 17 (loss_shown (tested_loss no_loss xs)) loss_most
unfolding loss_in need ◌>>◌
losses_decided xs = over_first no_loss xs

-- ---- the lists

module _ (fs : List ℕ) (ls : List Loss) (ws : List ℕ) where
  pub lists_loss : (length ls ≡ length fs → ⊥) → false ≡ blocks_agree (block_lists fs ls ws)
  lists_loss h = sym (rw (ne_eqb _ _ h))

  module _ (h : length ls ≡ length fs) where
    pub words_differ : (length ws ≡ 5 * length fs → ⊥) → false ≡ blocks_agree (block_lists fs ls ws)
    words_differ q = sym (rw (eq-eqb _ _ h, ne_eqb _ _ q))

    pub lists_odd : (length ws % 5 ≡ 0 → ⊥) → false ≡ blocks_agree (block_lists fs ls ws)
    lists_odd q = words_differ (λ e. q (omega arith))

    pub lists_words : length ws % 5 ≡ 0 → eqb (length ws / 5) (length fs) ≡ blocks_agree (block_lists fs ls ws)
    lists_words q = go (eqb (length ws / 5) (length fs)) refl
      where
        go : (t : Bool) → eqb (length ws / 5) (length fs) ≡ t → t ≡ blocks_agree (block_lists fs ls ws)
        go true e = let f = eqb-true (length ws / 5) (length fs) e in sym (rw (eq-eqb _ _ h, eq-eqb (length ws) (5 * length fs) (omega arith)))
        go false e = words_differ (λ f. eqb-false (length ws / 5) (length fs) e (omega arith))

    pub lists_agree : length ws ≡ length fs * 5 → true ≡ blocks_agree (block_lists fs ls ws)
    lists_agree q = sym (rw (eq-eqb _ _ h, eq-eqb (length ws) (5 * length fs) (omega arith)))

  module _ (a : blocks_agree (block_lists fs ls ws) ≡ true) where
    pub agree_losses : length ls ≡ length fs
    agree_losses = eqb-true _ _ (and_inv (eqb (length ls) (length fs)) (eqb (length ws) (5 * length fs)) a).0

    pub agree_words : length ws ≡ 5 * length fs
    agree_words = eqb-true _ _ (and_inv (eqb (length ls) (length fs)) (eqb (length ws) (5 * length fs)) a).1

-- the block of index i, with this loss
abbrev block_given : List ℕ → List ℕ → ℕ → Loss → Block
block_given fs ws i loss =
    record { ssrc = get_or ws (i * 5) 0; fraction = get_or fs i 0; lost = loss; sequence = get_or ws (i * 5 + 1) 0; jitter = get_or ws (i * 5 + 2) 0; lsr = get_or ws (i * 5 + 3) 0; dlsr = get_or ws (i * 5 + 4) 0 }

abbrev pub block_at : List ℕ → List Loss → List ℕ → ℕ → Block
block_at fs ls ws i = block_given fs ws i (get_or ls i no_loss)

at_lent : (i : ℕ) (fs : List ℕ) (ls : List Loss) (ws : List ℕ) (d : Block) → i < length fs → get_or (lent_blocks fs ls ws) i d ≡ block_at fs ls ws i
unfolding lent_blocks
at_lent i [] ls ws d h = absurd (omega arith)
at_lent zero (f ∷ fs) ls ws d h = refl
at_lent (suc i) (f ∷ fs) ls ws d h =
    let e : suc i * 5 ≡ 5 + i * 5 = omega arith in
    let o : 1 + i ≡ suc i = omega arith in
    at_lent i fs (drop 1 ls) (drop 5 ws) d (omega arith) ∙ rw (e, get_or-drop 1 ls i no_loss, o, get_or-drop 5 ws (i * 5) 0, get_or-drop 5 ws (i * 5 + 1) 0, get_or-drop 5 ws (i * 5 + 2) 0, get_or-drop 5 ws (i * 5 + 3) 0, get_or-drop 5 ws (i * 5 + 4) 0, add_assoc 5 (i * 5) 1, add_assoc 5 (i * 5) 2, add_assoc 5 (i * 5) 3, add_assoc 5 (i * 5) 4)

-- what is left of the blocks, one on
next_lent : (i : ℕ) (fs : List ℕ) (ls : List Loss) (ws : List ℕ) → i < length fs → drop i (lent_blocks fs ls ws) ≡ block_at fs ls ws i ∷ drop (i + 1) (lent_blocks fs ls ws)
next_lent i fs ls ws h =
    let n = length_lent_blocks fs ls ws in
    rw (add-one i) (drop-cons (lent_blocks fs ls ws) i (block_at fs ls ws i) (omega arith) ∙ ap (λ (b : Block). b ∷ drop (suc i) (lent_blocks fs ls ws)) (at_lent i fs ls ws (block_at fs ls ws i) h))

-- ---- one block

abbrev block_bytes : Block → List ℕ
block_bytes b = put block_widths (block_fields b)

pub length_block : (b : Block) → length (put block_widths (block_fields b)) ≡ 24
unfolding put be
length_block b = refl

pub length_blocks : (bs : List Block) → length (blocks_bytes bs) ≡ length bs * 24
unfolding blocks_bytes
length_blocks [] = refl
length_blocks (b ∷ bs) = rw (length-append (block_bytes b) (blocks_bytes bs), length_block b, length_blocks bs) (omega arith)

loss_word : (f : ℕ) (lost : Loss) (bits : ℕ) (r : List ℕ) → bits ≡ loss_bits lost → be 4 (f * 16777216 + bits) ++ r ≡ be 1 f ++ (be 3 (loss_bits lost) ++ r)
loss_word f lost bits r q =
    let h : bits < 16777216 = rw q (loss_bits_lt lost) in
    rw (be_cons 3 f bits h, be_one f, q)

pub block_laid : (at : ℕ) (b : ReportBlock) (bits : ℕ) (l l₁ l₂ l₃ l₄ l₅ l₆ : List ℕ) → at + 24 ≤ length l → mag b.cumulative_lost < 2147483648 → bits ≡ loss_bits (to_z w32 (of_z w32 b.cumulative_lost))
    → l₁ ≡ store at (be 4 b.ssrc) l → l₂ ≡ store (at + 4) (be 4 (b.fraction_lost * 16777216 + bits)) l₁ → l₃ ≡ store (at + 8) (be 4 b.extended_sequence_number) l₂
    → l₄ ≡ store (at + 12) (be 4 b.interarrival_jitter) l₃ → l₅ ≡ store (at + 16) (be 4 b.last_sender_report_timestamp) l₄
    → l₆ ≡ store (at + 20) (be 4 b.delay_since_last_sender_report_timestamp) l₅ → l₆ ≡ store at (put block_widths (block_fields (block_of b))) l
unfolding put be
block_laid at b bits l l₁ l₂ l₃ l₄ l₅ l₆ h g q e₁ e₂ e₃ e₄ e₅ e₆ =
    e₆
    ∙ rw (e₅, e₄, e₃, e₂, e₁) (stores at (be 4 b.ssrc) (be 4 (b.fraction_lost * 16777216 + bits) ∷ be 4 b.extended_sequence_number ∷ be 4 b.interarrival_jitter ∷ be 4 b.last_sender_report_timestamp ∷ be 4 b.delay_since_last_sender_report_timestamp ∷ []) l h)
    ∙ ap (λ (bs : List ℕ). store at (be 4 b.ssrc ++ bs) l) (loss_word b.fraction_lost b.cumulative_lost bits _ (q ∙ ap loss_bits (bits_back b.cumulative_lost g)))

-- ---- the blocks, one after the other

pub record Blocks (at : ℕ) (bs : List Block) (l : List ℕ) (i : ℕ) (l₁ : List ℕ) : Type 0 where
  pub within : i ≤ length bs
  pub long : length l₁ ≡ length l
  pub rest : store (at + i * 24) (blocks_bytes (drop i bs)) l₁ ≡ store at (blocks_bytes bs) l

module _ (at : ℕ) (bs : List Block) (l : List ℕ) where
  pub blocks_start : Blocks at bs l 0 l
  blocks_start = record { within = omega arith; long = refl; rest = rw add-zero }

  module _ (i : ℕ) (l₁ : List ℕ) (w : Blocks at bs l i l₁) where
    pub blocks_room : at + length bs * 24 ≤ length l → i < length bs → at + i * 24 + 24 ≤ length l₁
    blocks_room f h = let g = w.long in omega arith

    pub block_next : (b : Block) → drop i bs ≡ b ∷ drop (i + 1) bs → (l₂ : List ℕ) → at + length bs * 24 ≤ length l → i < length bs → l₂ ≡ store (at + i * 24) (put block_widths (block_fields b)) l₁ → Blocks at bs l (i + 1) l₂
    unfolding blocks_bytes
    block_next b next l₂ f h e =
        let m : length (blocks_bytes (drop (i + 1) bs)) ≡ (length bs - (i + 1)) * 24 = length_blocks (drop (i + 1) bs) ∙ ap (λ (k : ℕ). k * 24) (length-drop (i + 1) bs) in
        let lb = length_block b in
        let g = w.long in
        let s : store (at + (i + 1) * 24) (blocks_bytes (drop (i + 1) bs)) l₂ ≡ store (at + i * 24) (block_bytes b ++ blocks_bytes (drop (i + 1) bs)) l₁ =
        rw e (store_store (at + i * 24) (at + (i + 1) * 24) (block_bytes b) (blocks_bytes (drop (i + 1) bs)) l₁ (omega arith) (omega arith)) in
        record {
          within = omega arith;
          long = ap length e ∙ length_store (at + i * 24) (block_bytes b) l₁ (omega arith) ∙ w.long;
          rest = s ∙ (rw next at w.rest);
        }

    pub blocks_laid : length bs ≤ i → l₁ ≡ store at (blocks_bytes bs) l
    unfolding blocks_bytes
    blocks_laid h =
        let z : drop i bs ≡ [] = drop_of_length-le bs {i = i} h in
        sym (store_nil (at + i * 24) l₁) ∙ (rw z at w.rest)

module _ (at : ℕ) (fs : List ℕ) (ls : List Loss) (ws l : List ℕ) where
  pub lent_start : Blocks at (lent_blocks fs ls ws) l 0 l
  lent_start = blocks_start at (lent_blocks fs ls ws) l

  module _ (i : ℕ) (l₁ : List ℕ) (w : Blocks at (lent_blocks fs ls ws) l i l₁) where
    pub lent_room : at + length fs * 24 ≤ length l → i < length fs → at + i * 24 + 24 ≤ length l₁
    lent_room f h = let n = length_lent_blocks fs ls ws in blocks_room at (lent_blocks fs ls ws) l i l₁ w (omega arith) (omega arith)

    pub lent_again : (l₂ : List ℕ) → at + length fs * 24 ≤ length l → i < length fs → mag (get_or ls i no_loss) < 2147483648
        → l₂ ≡ store (at + i * 24) (put block_widths (block_fields (block_given fs ws i (to_z w32 (of_z w32 (get_or ls i no_loss)))))) l₁
        → Blocks at (lent_blocks fs ls ws) l (i + 1) l₂
    lent_again l₂ f h g e =
        let b = bits_back (get_or ls i no_loss) g in
        let n = length_lent_blocks fs ls ws in
        block_next at (lent_blocks fs ls ws) l i l₁ w (block_at fs ls ws i) (next_lent i fs ls ws h) l₂ (omega arith) (omega arith) (rw b at e)

    pub lent_done : length fs ≤ i → l₁ ≡ store at (blocks_bytes (lent_blocks fs ls ws)) l
    lent_done h = let n = length_lent_blocks fs ls ws in blocks_laid at (lent_blocks fs ls ws) l i l₁ w (omega arith)

pub ruleset blocks = (writer, not-true, not-false, later_next, later_kept, merged_start, merged_again, merged_signed, merged_done, lists_loss, lists_odd, lists_words, agree_losses, agree_words, block_laid, lent_start, lent_room, lent_again, lent_done)
