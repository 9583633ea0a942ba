-- A report block's fields, under rtcp-types' names, and blocks as lists of numbers.
use Rattle.std.specs.Prelude.{ℕ, ◌*◌, ◌≡◌, Bool, true, false, ◌&&◌, List, [], ◌∷◌, ◌++◌, leb, length}
use Rattle.std.proofs.lemmas.List.Edits.{sets}
use Rattle.rfc3550.specs.Answer.{Answer, ok, refused, refuse}
use Rattle.rfc3550.specs.Loss.{Loss}
use Rattle.rfc3550.specs.Packet.{Block}
use Rattle.report.specs.declared.report_block.ReportBlock.{ReportBlock}

abbrev pub block_view : Block → ReportBlock
block_view b =
    record {
      ssrc = b.ssrc;
      fraction_lost = b.fraction;
      cumulative_lost = b.lost;
      extended_sequence_number = b.sequence;
      interarrival_jitter = b.jitter;
      last_sender_report_timestamp = b.lsr;
      delay_since_last_sender_report_timestamp = b.dlsr;
    }

-- ---- blocks as three lists: a fraction and a loss for each, and five words

abbrev pub fraction_in : Block → List ℕ
fraction_in b = b.fraction ∷ []

abbrev pub loss_in : Block → List Loss
loss_in b = b.lost ∷ []

abbrev pub words_in : Block → List ℕ
words_in b = b.ssrc ∷ b.sequence ∷ b.jitter ∷ b.lsr ∷ b.dlsr ∷ []

-- what is taken of each block, one after the other
unfoldable pub list_of : {A : Type 0} → (Block → List A) → List Block → List A
list_of g [] = []
list_of g (b ∷ bs) = g b ++ list_of g bs

-- three lists after one block was laid, and after all were; `sets l i xs` is l with xs from index i on
pub record BlockListed (b : Block) (i to : ℕ) (f : List ℕ) (l : List Loss) (w f₁ : List ℕ) (l₁ : List Loss) (w₁ : List ℕ) : Type 0 where
  pub fractions : f₁ ≡ sets f i (fraction_in b)
  pub losses : l₁ ≡ sets l i (loss_in b)
  pub words : w₁ ≡ sets w to (words_in b)

pub record BlocksListed (bs : List Block) (f : List ℕ) (l : List Loss) (w f₁ : List ℕ) (l₁ : List Loss) (w₁ : List ℕ) : Type 0 where
  pub fractions : f₁ ≡ sets f 0 (list_of fraction_in bs)
  pub losses : l₁ ≡ sets l 0 (list_of loss_in bs)
  pub words : w₁ ≡ sets w 0 (list_of words_in bs)

abbrev pub room : ℕ → List ℕ → List Loss → List ℕ → Bool
room n fractions losses words = leb n (length fractions) && leb n (length losses) && leb (n * 5) (length words)

-- from the start of each list; 10, with how many blocks there are, where one is shorter
abbrev pub lay_if : Bool → List Block → List ℕ → List Loss → List ℕ → Answer ℕ × List ℕ × List Loss × List ℕ
lay_if true bs fractions losses words = (ok (length bs), sets fractions 0 (list_of fraction_in bs), sets losses 0 (list_of loss_in bs), sets words 0 (list_of words_in bs))
lay_if false bs fractions losses words = (refuse 10 (length bs) 0, fractions, losses, words)

unfoldable pub lay_blocks : Answer (List Block) → List ℕ → List Loss → List ℕ → Answer ℕ × List ℕ × List Loss × List ℕ
lay_blocks (ok bs) fractions losses words = lay_if (room (length bs) fractions losses words) bs fractions losses words
lay_blocks (refused r) fractions losses words = (refused r, fractions, losses, words)
