-- A report block from its seven numbers, a lone block's steps, and blocks in three lists.
use Rattle.rfc3550.proofs.Prelude.{rules, ◌≡◌, refl, sym, ap, ◌∙◌, List, [], ◌∷◌, ◌++◌, append_assoc, append-nil, ℕ, zero, suc, ◌+◌, ◌*◌, ◌/◌, ◌%◌, ◌^◌, ◌<◌, ◌≤◌, mul-suc, mul-zero, add-one, arith, le-leb, lt-leb, length, get_or, take, drop, set, sets, length-append, length-drop, drop-drop, length-take-le}
use lib.Seq.{length-sets}
use Rattle.rfc3550.specs.Answer.{ok, refuse, need, ◌>>◌, map_ok}
use Rattle.rfc3550.specs.Bytes.{val, get}
use Rattle.rfc3550.specs.Loss.{Loss, loss_of}
use Rattle.rfc3550.specs.Packet.{Block, block_widths}
use Rattle.rfc3550.specs.Read.{block_from, read_block, read_blocks}
use Rattle.rfc3550.proofs.Bytes.{val_lt, bytes_take, bytes_drop, bytes_each}
use Rattle.utils.proofs.Numbers.{val_join}
use Rattle.utils.proofs.Parts.{length_read_blocks}
use Rattle.utils.proofs.WriterStores.{puts, sets_puts}
use Rattle.report.specs.Block.{block_view, fraction_in, loss_in, words_in, list_of, BlockListed, BlocksListed, lay_blocks}
use Rattle.report.specs.declared.report_block.ReportBlock.{ReportBlock}

abbrev block_at : List ℕ → ℕ → ReportBlock
block_at s at = block_view (block_from (get block_widths (drop at s)))

-- the word of the fraction and the loss
lost_word : (s : List ℕ) (at : ℕ) → ((i : ℕ) → get_or s i 0 < 256) → at + 24 ≤ length s
    → (val (take 4 (drop (at + 4) s)) / 16777216 ≡ val (take 1 (drop (at + 4) s))) × (val (take 4 (drop (at + 4) s)) % 16777216 ≡ val (take 3 (drop (at + 5) s)))
lost_word s at y h =
    let p : at + 4 + 1 ≡ at + 5 = omega arith in
    let j : val (take 1 (drop (at + 4) s)) * 256 ^ 3 + val (take 3 (drop (at + 4 + 1) s)) ≡ val (take 4 (drop (at + 4) s)) = val_join 1 3 s (at + 4) 4 _ _ (omega arith) (omega arith) refl refl in
    let l : length (take 3 (drop (at + 5) s)) ≡ 3 = length-take-le 3 (drop (at + 5) s) (rw length-drop (omega arith)) in
    let b : val (take 3 (drop (at + 5) s)) < 256 ^ 3 = rw l at (val_lt (take 3 (drop (at + 5) s)) (bytes_take 3 (drop (at + 5) s) (bytes_drop (at + 5) s (bytes_each s y)))) in
    let w : val (take 1 (drop (at + 4) s)) * 16777216 + val (take 3 (drop (at + 5) s)) ≡ val (take 4 (drop (at + 4) s)) = rw p at j in
    (omega arith, omega arith)

pub block_is_lem : (s : List ℕ) (at a lost : ℕ) (loss : Loss) (d e f g : ℕ) → ((i : ℕ) → get_or s i 0 < 256) → at + 24 ≤ length s → a ≡ val (take 4 (drop at s)) → lost ≡ val (take 4 (drop (at + 4) s)) → loss ≡ loss_of (lost % 16777216)
    → d ≡ val (take 4 (drop (at + 8) s)) → e ≡ val (take 4 (drop (at + 12) s)) → f ≡ val (take 4 (drop (at + 16) s)) → g ≡ val (take 4 (drop (at + 20) s))
    → record {
      ssrc = a;
      fraction_lost = lost / 16777216;
      cumulative_lost = loss;
      extended_sequence_number = d;
      interarrival_jitter = e;
      last_sender_report_timestamp = f;
      delay_since_last_sender_report_timestamp = g;
    } ≡ block_at s at
unfolding get
block_is_lem s at a lost loss d e f g y h p₁ p₂ p₃ p₄ p₅ p₆ p₇ =
    let w = lost_word s at y h in
    rw (
      drop-drop 1 4 (drop at s),
      drop-drop 3 5 (drop at s),
      drop-drop 4 8 (drop at s),
      drop-drop 4 12 (drop at s),
      drop-drop 4 16 (drop at s),
      drop-drop 4 at s,
      drop-drop 5 at s,
      drop-drop 8 at s,
      drop-drop 12 at s,
      drop-drop 16 at s,
      drop-drop 20 at s,
      p₁,
      p₃,
      p₂,
      w.0,
      w.1,
      p₄,
      p₅,
      p₆,
      p₇,
    )

module _ (s : List ℕ) where
  pub block_short : length s < 24 → refuse 2 24 (length s) ≡ map_ok block_view (read_block s)
  unfolding read_block need ◌>>◌ map_ok
  block_short l = rw (lt-leb 24 (length s) l)

  pub block_long : 24 < length s → refuse 3 24 (length s) ≡ map_ok block_view (read_block s)
  unfolding read_block need ◌>>◌ map_ok
  block_long l = let m : 24 ≤ length s = omega arith in rw (le-leb 24 (length s) m, lt-leb (length s) 24 l)

  pub block_whole : (b : ReportBlock) → 24 ≤ length s → length s ≤ 24 → b ≡ block_at s 0 → ok b ≡ map_ok block_view (read_block s)
  unfolding read_block need ◌>>◌ map_ok
  block_whole b l m q = rw (le-leb 24 (length s) l, le-leb (length s) 24 m, q)

-- ---- the numbers of a block, one by one into the lists

abbrev there : List ℕ → ℕ → Block
there s at = block_from (get block_widths (drop at s))

pub block_laid : (s : List ℕ) (at i to : ℕ) (b : ReportBlock) (loss : Loss) (f : List ℕ) (l : List Loss) (w : List ℕ) → b ≡ block_at s at → loss ≡ b.cumulative_lost
    → BlockListed (there s at) i to f l w (set f i b.fraction_lost) (set l i loss)
    (puts to 1 (b.extended_sequence_number ∷ b.interarrival_jitter ∷ b.last_sender_report_timestamp ∷ b.delay_since_last_sender_report_timestamp ∷ []) (set w to b.ssrc))
block_laid s at i to b loss f l w e q =
    record {
      fractions = ap (λ (b : ReportBlock). set f i b.fraction_lost) e;
      losses = ap (set l i) q ∙ ap (λ (b : ReportBlock). set l i b.cumulative_lost) e;
      words = sets_puts to b.ssrc (b.extended_sequence_number ∷ b.interarrival_jitter ∷ b.last_sender_report_timestamp ∷ b.delay_since_last_sender_report_timestamp ∷ []) w
          ∙ ap (λ (b : ReportBlock). sets w to (b.ssrc ∷ b.extended_sequence_number ∷ b.interarrival_jitter ∷ b.last_sender_report_timestamp ∷ b.delay_since_last_sender_report_timestamp ∷ [])) e;
    }

-- ---- the blocks, one after the other: over what is taken of each

blocks_more : (n : ℕ) (s : List ℕ) → read_blocks (suc n) s ≡ read_blocks n s ++ (there s (24 * n) ∷ [])
unfolding read_blocks
blocks_more zero s = rw (mul-zero 24)
blocks_more (suc n) s =
    let e : 24 + 24 * n ≡ 24 * suc n = omega arith in
    ap (λ (bs : List Block). there s 0 ∷ bs) (blocks_more n (drop 24 s) ∙ rw (drop-drop (24 * n) 24 s, e))

sets_append : {A : Type 0} (xs ys l : List A) (i k : ℕ) → i + length xs ≡ k → sets (sets l i xs) k ys ≡ sets l i (xs ++ ys)
sets_append [] ys l i k e = let q : k ≡ i = omega arith in rw q
sets_append (x ∷ xs) ys l i k e = sets_append xs ys (set l i x) (suc i) k (omega arith)

module _ {A : Type 0} (g : Block → List A) where
  list_more : (bs : List Block) (b : Block) → list_of g (bs ++ (b ∷ [])) ≡ list_of g bs ++ g b
  unfolding list_of
  list_more [] b = append-nil (g b)
  list_more (x ∷ bs) b = ap (λ (l : List A). g x ++ l) (list_more bs b) ∙ sym (append_assoc (g x) (list_of g bs) (g b))

  module _ (w : ℕ) (wide : (b : Block) → length (g b) ≡ w) where
    length_list : (bs : List Block) → length (list_of g bs) ≡ w * length bs
    unfolding list_of
    length_list [] = sym (mul-zero w)
    length_list (b ∷ bs) = length-append (g b) (list_of g bs) ∙ omega (arith, wide b, length_list bs, mul-suc w (length bs))

    -- one block more, at its place
    list_laid : (s : List ℕ) (at i k : ℕ) (l l₁ l₂ : List A) → k ≡ w * i → l₁ ≡ sets l 0 (list_of g (read_blocks i (drop at s))) → l₂ ≡ sets l₁ k (g (there s (at + i * 24)))
        → l₂ ≡ sets l 0 (list_of g (read_blocks (i + 1) (drop at s)))
    list_laid s at i k l l₁ l₂ e p q =
        let n : length (list_of g (read_blocks i (drop at s))) ≡ w * i = length_list (read_blocks i (drop at s)) ∙ ap (λ (n : ℕ). w * n) (length_read_blocks i (drop at s)) in
        let u : at + 24 * i ≡ at + i * 24 = omega arith in
        let d : drop (24 * i) (drop at s) ≡ drop (at + i * 24) s = drop-drop (24 * i) at s ∙ ap (λ (n : ℕ). drop n s) u in
        q ∙ ap (λ (x : List A). sets x k (g (there s (at + i * 24)))) p
        ∙ sets_append (list_of g (read_blocks i (drop at s))) (g (there s (at + i * 24))) l 0 k (omega arith)
        ∙ ap (λ (xs : List A). sets l 0 xs)
        (ap (λ (x : List ℕ). list_of g (read_blocks i (drop at s)) ++ g (block_from (get block_widths x))) (sym d) ∙ sym (list_more (read_blocks i (drop at s)) (there (drop at s) (24 * i)))
        ∙ ap (list_of g) (sym (blocks_more i (drop at s)) ∙ ap (λ (n : ℕ). read_blocks n (drop at s)) (sym (add-one i))))

sets_long : {A : Type 0} (xs l l₁ : List A) → l₁ ≡ sets l 0 xs → length l₁ ≡ length l
sets_long xs l l₁ e = ap length e ∙ length-sets l 0 xs

pub record Listing (s : List ℕ) (at n : ℕ) (f : List ℕ) (l : List Loss) (w : List ℕ) (i : ℕ) (f₁ : List ℕ) (l₁ : List Loss) (w₁ : List ℕ) : Type 0 where
  pub within : i ≤ n
  pub fractions_long : length f₁ ≡ length f
  pub losses_long : length l₁ ≡ length l
  pub words_long : length w₁ ≡ length w
  pub laid : BlocksListed (read_blocks i (drop at s)) f l w f₁ l₁ w₁

module _ (s : List ℕ) (at n : ℕ) (f : List ℕ) (l : List Loss) (w : List ℕ) where
  pub listing_start : Listing s at n f l w 0 f l w
  unfolding read_blocks list_of
  listing_start =
      record {
        within = omega arith;
        fractions_long = refl;
        losses_long = refl;
        words_long = refl;
        laid = record { fractions = refl; losses = refl; words = refl };
      }

  module _ (i : ℕ) (f₁ : List ℕ) (l₁ : List Loss) (w₁ : List ℕ) (g : Listing s at n f l w i f₁ l₁ w₁) where
    pub listing_again : (f₂ : List ℕ) (l₂ : List Loss) (w₂ : List ℕ) → i < n → BlockListed (there s (at + i * 24)) i (i * 5) f₁ l₁ w₁ f₂ l₂ w₂ → Listing s at n f l w (i + 1) f₂ l₂ w₂
    listing_again f₂ l₂ w₂ h e =
        let p = list_laid fraction_in 1 (λ b. refl) s at i i f f₁ f₂ (omega arith) g.laid.fractions e.fractions in
        let q = list_laid loss_in 1 (λ b. refl) s at i i l l₁ l₂ (omega arith) g.laid.losses e.losses in
        let r = list_laid words_in 5 (λ b. refl) s at i (i * 5) w w₁ w₂ (omega arith) g.laid.words e.words in
        record {
          within = omega arith;
          fractions_long = sets_long (list_of fraction_in (read_blocks (i + 1) (drop at s))) f f₂ p;
          losses_long = sets_long (list_of loss_in (read_blocks (i + 1) (drop at s))) l l₂ q;
          words_long = sets_long (list_of words_in (read_blocks (i + 1) (drop at s))) w w₂ r;
          laid = record { fractions = p; losses = q; words = r };
        }

    pub listing_done : n ≤ i → BlocksListed (read_blocks n (drop at s)) f l w f₁ l₁ w₁
    listing_done h = let e : i ≡ n = omega (arith, g.within) in rw e at g.laid

-- ---- into lists that are long enough, or not

module _ (s : List ℕ) (at n : ℕ) (f : List ℕ) (l : List Loss) (w : List ℕ) where
  pub fractions_short : length f < n → (refuse 10 n 0, f, l, w) ≡ lay_blocks (ok (read_blocks n (drop at s))) f l w
  unfolding lay_blocks
  fractions_short h = rw (length_read_blocks n (drop at s), lt-leb n (length f) h, length_read_blocks n (drop at s))

  pub losses_short : n ≤ length f → length l < n → (refuse 10 n 0, f, l, w) ≡ lay_blocks (ok (read_blocks n (drop at s))) f l w
  unfolding lay_blocks
  losses_short a h = rw (length_read_blocks n (drop at s), le-leb n (length f) a, lt-leb n (length l) h, length_read_blocks n (drop at s))

  pub words_short : n ≤ length f → n ≤ length l → length w < n * 5 → (refuse 10 n 0, f, l, w) ≡ lay_blocks (ok (read_blocks n (drop at s))) f l w
  unfolding lay_blocks
  words_short a b h = rw (length_read_blocks n (drop at s), le-leb n (length f) a, le-leb n (length l) b, lt-leb (n * 5) (length w) h, length_read_blocks n (drop at s))

  pub lists_laid : (f₁ : List ℕ) (l₁ : List Loss) (w₁ : List ℕ) → n ≤ length f → n ≤ length l → n * 5 ≤ length w → BlocksListed (read_blocks n (drop at s)) f l w f₁ l₁ w₁
      → (ok n, f₁, l₁, w₁) ≡ lay_blocks (ok (read_blocks n (drop at s))) f l w
  unfolding lay_blocks
  lists_laid f₁ l₁ w₁ a b c e =
      rw (length_read_blocks n (drop at s), le-leb n (length f) a, le-leb n (length l) b, le-leb (n * 5) (length w) c, length_read_blocks n (drop at s), e.fractions, e.losses, e.words)

pub ruleset blocks = (rules, block_is_lem, block_short, block_long, block_whole, block_laid, listing_start, listing_again, listing_done, fractions_short, losses_short, words_short, lists_laid)
