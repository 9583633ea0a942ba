-- The three lists that calls fill with a report's blocks: lent to a writer, they are the blocks again.
use Rattle.rfc3550.proofs.Prelude.{ℕ, suc, ◌*◌, ◌≡◌, refl, sym, ap, ◌∙◌, Bool, true, false, List, [], ◌∷◌, ◌+◌, ◌≤◌, ◌&&◌, leb, arith, leb-true, length, take, drop, sets, sets-eq, take_at}
use Rattle.rfc3550.specs.Answer.{Answer, ok, refused, map_ok}
use Rattle.rfc3550.specs.Loss.{Loss}
use Rattle.rfc3550.specs.Packet.{Block, Packet as Read}
use Rattle.rfc3550.specs.Read.{Kind, read_as}
use Rattle.rfc3550.specs.Write.{lent_blocks}
use Rattle.rfc3550.proofs.Answers.{and_inv, ok_injective, refused≢ok, map_ok_inv}
use Rattle.report.specs.Block.{fraction_in, loss_in, words_in, list_of, room, lay_if, lay_blocks}
use Rattle.report.specs.Report.{report_blocks}
use Rattle.rtcp.specs.Report.{blocks_out}
use Rattle.rtcp.specs.declared.write_result.RtcpWritten.{RtcpWritten}
use Rattle.rtcp.proofs.Injective.{Nonzero}
use Rattle.rtcp.proofs.Nonzero.{map_nonzero, read_nonzero}

-- ---- the three lists are the blocks' own

length_one : {A : Type 0} (g : Block → A) (bs : List Block) → length (list_of (λ (b : Block). g b ∷ []) bs) ≡ length bs
unfolding list_of
length_one g [] = refl
length_one g (b ∷ bs) = ap suc (length_one g bs)

length_words : (bs : List Block) → length (list_of words_in bs) ≡ length bs * 5
unfolding list_of
length_words [] = refl
length_words (b ∷ bs) = omega (arith, length_words bs)

lent_back : (bs : List Block) → lent_blocks (list_of fraction_in bs) (list_of loss_in bs) (list_of words_in bs) ≡ bs
unfolding lent_blocks list_of
lent_back [] = refl
lent_back (b ∷ bs) = ap (λ (bs : List Block). b ∷ bs) (lent_back bs)

laid_front : {A : Type 0} (xs l : List A) (n : ℕ) → length xs ≡ n → n ≤ length l → take n (sets l 0 xs) ≡ xs
laid_front xs l n e h = ap (take n) (sets-eq xs l 0 (omega arith)) ∙ take_at xs (drop (0 + length xs) l) n e

abbrev Four : Type 0
Four = Answer ℕ × List ℕ × List Loss × List ℕ

laid_blocks : (b : Bool) (bs : List Block) (n : ℕ) (f : List ℕ) (l : List Loss) (w : List ℕ) (f₁ : List ℕ) (l₁ : List Loss) (w₁ : List ℕ) → room (length bs) f l w ≡ b → ◌≡◌ {A = Four} (ok n, f₁, l₁, w₁) (lay_if b bs f l w)
    → lent_blocks (take n f₁) (take n l₁) (take (n * 5) w₁) ≡ bs
laid_blocks false bs n f l w f₁ l₁ w₁ o e = absurd (refused≢ok (sym (ap (λ (x : Four). x.0) e)))
laid_blocks true bs n f l w f₁ l₁ w₁ o e =
    let h = and_inv (leb (length bs) (length f) && leb (length bs) (length l)) (leb (length bs * 5) (length w)) o in
    let i = and_inv (leb (length bs) (length f)) (leb (length bs) (length l)) h.0 in
    let fractions-fit : length bs ≤ length f = leb-true _ _ i.0 in
    let losses-fit : length bs ≤ length l = leb-true _ _ i.1 in
    let words-fit : length bs * 5 ≤ length w = leb-true _ _ h.1 in
    let k : length bs ≡ n = sym (ok_injective (ap (λ (x : Four). x.0) e)) in
    let a : take n f₁ ≡ list_of fraction_in bs = ap (λ (x : Four). take n x.1) e ∙ laid_front (list_of fraction_in bs) f n (length_one (λ (b : Block). b.fraction) bs ∙ k) (omega arith) in
    let c : take n l₁ ≡ list_of loss_in bs = ap (λ (x : Four). take n x.2) e ∙ laid_front (list_of loss_in bs) l n (length_one (λ (b : Block). b.lost) bs ∙ k) (omega arith) in
    let d : take (n * 5) w₁ ≡ list_of words_in bs = ap (λ (x : Four). take (n * 5) x.3) e ∙ laid_front (list_of words_in bs) w (n * 5) (length_words bs ∙ ap (λ (m : ℕ). m * 5) k) (omega arith) in
    ap (λ (x : List ℕ). lent_blocks x (take n l₁) (take (n * 5) w₁)) a
    ∙ ap (λ (x : List Loss). lent_blocks (list_of fraction_in bs) x (take (n * 5) w₁)) c
    ∙ ap (λ (x : List ℕ). lent_blocks (list_of fraction_in bs) (list_of loss_in bs) x) d
    ∙ lent_back bs

-- lists that a call filled: lent to a writer, they are the blocks again
pub blocks_filled : (a : Answer (List Block)) (n : ℕ) (f : List ℕ) (l : List Loss) (w : List ℕ) (f₁ : List ℕ) (l₁ : List Loss) (w₁ : List ℕ) → ◌≡◌ {A = Four} (ok n, f₁, l₁, w₁) (lay_blocks a f l w)
    → (bs : List Block) × (a ≡ ok bs) × (lent_blocks (take n f₁) (take n l₁) (take (n * 5) w₁) ≡ bs)
unfolding lay_blocks
blocks_filled (ok bs) n f l w f₁ l₁ w₁ e = (bs, refl, laid_blocks (room (length bs) f l w) bs n f l w f₁ l₁ w₁ refl e)
blocks_filled (refused r) n f l w f₁ l₁ w₁ e = absurd (refused≢ok (sym (ap (λ (x : Four). x.0) e)))

-- ---- the C functions: number 0 says that the lists are filled, and the size is the number of blocks

laid_nonzero : (b : Bool) (bs : List Block) (f : List ℕ) (l : List Loss) (w : List ℕ) → Nonzero (lay_if b bs f l w).0
laid_nonzero true bs f l w = tt
laid_nonzero false bs f l w = omega arith

blocks_nonzero : (a : Answer (List Block)) (f : List ℕ) (l : List Loss) (w : List ℕ) → Nonzero a → Nonzero (lay_blocks a f l w).0
unfolding lay_blocks
blocks_nonzero (ok bs) f l w n = laid_nonzero (room (length bs) f l w) bs f l w
blocks_nonzero (refused r) f l w n = n

handed_blocks : (x : Four) (r : RtcpWritten) (f₁ : List ℕ) (l₁ : List Loss) (w₁ : List ℕ) → Nonzero x.0 → (r, f₁, l₁, w₁) ≡ blocks_out x → r.number ≡ 0 → ◌≡◌ {A = Four} (ok r.size, f₁, l₁, w₁) x
handed_blocks (ok n, f, l, w) r f₁ l₁ w₁ k m z = ap (λ (y : RtcpWritten × List ℕ × List Loss × List ℕ). (ok y.0.size, y.1, y.2, y.3)) m
handed_blocks (refused e, f, l, w) r f₁ l₁ w₁ k m z = absurd (let q = ap (λ (y : RtcpWritten × List ℕ × List Loss × List ℕ). y.0.number) m in omega arith)

-- what `rtcp_rr_report_blocks` or `rtcp_sr_report_blocks` returned, and the lists that it left
pub blocks_listed : (k : Kind) (s : List ℕ) (r : RtcpWritten) (f : List ℕ) (l : List Loss) (w : List ℕ) (f₁ : List ℕ) (l₁ : List Loss) (w₁ : List ℕ) → (r, f₁, l₁, w₁) ≡ blocks_out (lay_blocks (map_ok report_blocks (read_as k s)) f l w) → r.number ≡ 0
    → (p : Read) × (read_as k s ≡ ok p) × (lent_blocks (take r.size f₁) (take r.size l₁) (take (r.size * 5) w₁) ≡ report_blocks p)
blocks_listed k s r f l w f₁ l₁ w₁ m z =
    let a : Answer (List Block) = map_ok report_blocks (read_as k s) in
    let g = blocks_filled a r.size f l w f₁ l₁ w₁ (handed_blocks (lay_blocks a f l w) r f₁ l₁ w₁ (blocks_nonzero a f l w (map_nonzero report_blocks (read_as k s) (read_nonzero k s))) m z) in
    let o = map_ok_inv report_blocks (read_as k s) g.1 in
    (o.0, o.1, g.2 ∙ sym o.2)
