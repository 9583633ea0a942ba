-- The cases of a report's size and bytes, over the reporter, each from what the code has tested or called.
use Rattle.std.specs.Prelude.{Option, None, Some}
use Rattle.rfc3550.proofs.Prelude.{ℕ, ◌+◌, ◌-◌, ◌*◌, ◌^◌, ◌≤◌, ◌<◌, ◌≡◌, refl, sym, ap, ◌∙◌, Bool, true, false, List, [], ◌∷◌, append-nil, arith, rules, le-leb, lt-leb, leb-true, not-true, not-false, length, take, drop, length-append, leb}
use lib.Signed.{mag}
use mir.Syntax.{w32}
use mir.Val.{to_z, of_z}
use Rattle.rfc3550.specs.Answer.{Refusal, ok, refused, refusal, need, ◌>>◌}
use Rattle.rfc3550.specs.Bytes.{be, put, store}
use Rattle.rfc3550.specs.Loss.{Loss, no_loss, loss_in, loss_shown, loss_most}
use Rattle.rfc3550.specs.Packet.{Block, Reporter, receiver, sender, report, blocks_bytes, sender_widths, receiver_widths, reporter_widths, reporter_fields, content_bytes, type, layout}
use Rattle.rfc3550.specs.Write.{BlockLists, blocks_lent, give_report, blocks_agree, packet_given, padding_bytes, padding_ok, own_tests, calculate_size}
use Rattle.rfc3550.proofs.Answers.{true≢false, need_inv, refused≢ok}
use Rattle.rfc3550.proofs.Writes.{length_lent_blocks}
use Rattle.utils.specs.Error.{value_in}
use Rattle.utils.specs.Writer.{header}
use Rattle.utils.proofs.Values.{value_is, none_refused}
use Rattle.utils.proofs.WriterStores.{stores}
use Rattle.utils.proofs.WriterPackets.{writes, padding_most, sized, size_ok, size_refused, parts_laid, header_long, packet_laid}
use Rattle.report_write.specs.declared.receiver.ReceiverInfo.{ReceiverInfo}
use Rattle.report_write.specs.declared.sender.SenderInfo.{SenderInfo}
use Rattle.report_write.specs.Report.{receiver_of, sender_of, least_of, block_lists, tested_loss, counted_size, lists_size, ReportFits, head_laid}
use Rattle.report.proofs.Losses.{bits_back}
use Rattle.report_write.proofs.Blocks.{length_blocks, losses_decided, lists_loss, words_differ, lists_agree}

-- ---- the size by what decides

module _ (least n : ℕ) (x : Loss) (k : ℕ) where
  pub over_count : 31 < n → refused (refusal 18 n 31) ≡ counted_size least n x k
  unfolding counted_size need ◌>>◌
  over_count h = simp (lt-leb _ _ h)

  module _ (h : n ≤ 31) (t : Bool) (e : t ≡ padding_ok k) where
    pub bad_padding_lem : t ≡ false → refused (refusal 11 k 0) ≡ counted_size least n x k
    unfolding counted_size need ◌>>◌
    bad_padding_lem q = simp (le-leb _ _ h, ← e, q)

    module _ (q : t ≡ true) (g : mag x < 2147483648) (u : Bool) (f : u ≡ loss_in (to_z w32 (of_z w32 x))) where
      loss_test : loss_in x ≡ u
      loss_test = ap loss_in (sym (bits_back x g)) ∙ sym f

      pub over_loss : u ≡ false → (v : ℕ) → v ≡ loss_shown (to_z w32 (of_z w32 x)) → refused (refusal 17 v loss_most) ≡ counted_size least n x k
      unfolding counted_size need ◌>>◌
      over_loss z v s = simp (le-leb _ _ h, ← e, q, loss_test, z, s, bits_back x g)

      counted : u ≡ true → ok (least + n * 24 + k) ≡ counted_size least n x k
      unfolding counted_size need ◌>>◌
      counted z = simp (le-leb _ _ h, ← e, q, loss_test, z)

-- the size, or none, and why
module _ (n : ℕ) (x : Loss) (k : ℕ) where
  pub count_none : (least : ℕ) → 31 < n → None ≡ value_in (counted_size least n x k)
  count_none least h = ap value_in (over_count least n x k h)

  module _ (h : n ≤ 31) (t : Bool) (e : t ≡ padding_ok k) where
    pub padding_none : (least : ℕ) → t ≡ false → None ≡ value_in (counted_size least n x k)
    padding_none least q = ap value_in (bad_padding_lem least n x k h t e q)

    module _ (q : t ≡ true) (g : mag x < 2147483648) where
      module _ (u : Bool) (f : u ≡ loss_in (to_z w32 (of_z w32 x))) where
        pub loss_none : (least : ℕ) → u ≡ false → None ≡ value_in (counted_size least n x k)
        loss_none least z = ap value_in (over_loss least n x k h t e q g u f z _ refl)

        pub counted_size_lem : (least : ℕ) → u ≡ true → Some (least + n * 24 + k) ≡ value_in (counted_size least n x k)
        counted_size_lem least z = ap value_in (counted least n x k h t e q g u f z)

      -- the loss is what is left
      pub last_loss : value_in (counted_size 0 n x k) ≡ None → (v : ℕ) → v ≡ loss_shown (to_z w32 (of_z w32 x)) → refused (refusal 17 v loss_most) ≡ counted_size 0 n x k
      last_loss z v s = go (loss_in (to_z w32 (of_z w32 x))) refl
        where
          go : (u : Bool) → u ≡ loss_in (to_z w32 (of_z w32 x)) → refused (refusal 17 v loss_most) ≡ counted_size 0 n x k
          go true f = let y = counted_size_lem true f 0 refl ∙ z in cc
          go false f = over_loss 0 n x k h t e q g false f refl v s

  pub counted_in : (least : ℕ) (t : Bool) → least < 256 → n ≤ 31 → t ≡ padding_ok k → t ≡ true → least + n * 24 + k < 2 ^ 64
  counted_in least t h f e q = let m = padding_most t k e q in omega arith

pub ruleset counts = (rules, not-true, not-false, count_none, padding_none, loss_none, counted_size_lem, counted_in)

pub ruleset whys = (rules, not-true, not-false, over_count, bad_padding_lem, last_loss)

-- ---- of lent lists

-- a size goes by whether the loss fits, not by the loss
size_by_fit : (least n : ℕ) (x y : Loss) (k : ℕ) → loss_in x ≡ loss_in y → value_in (counted_size least n x k) ≡ value_in (counted_size least n y k)
unfolding counted_size need ◌>>◌
size_by_fit least n x y k e = rw e (go (leb n 31) (padding_ok k) (loss_in y))
  where
    go : (a b c : Bool) → value_in (need a 18 n 31 >> need b 11 k 0 >> need c 17 (loss_shown x) loss_most >> ok (least + n * 24 + k)) ≡ value_in (need a 18 n 31 >> need b 11 k 0 >> need c 17 (loss_shown y) loss_most >> ok (least + n * 24 + k))
    go false b c = refl
    go true false c = refl
    go true true false = refl
    go true true true = refl

-- a refusal goes by no length
pub reason_same : (p q n : ℕ) (x : Loss) (k : ℕ) (r : Refusal) → refused r ≡ counted_size p n x k → refused r ≡ counted_size q n x k
unfolding counted_size need ◌>>◌
reason_same p q n x k r = go (leb n 31) (padding_ok k) (loss_in x)
  where
    go : (a b c : Bool) → refused r ≡ (need a 18 n 31 >> need b 11 k 0 >> need c 17 (loss_shown x) loss_most >> ok (p + n * 24 + k)) → refused r ≡ (need a 18 n 31 >> need b 11 k 0 >> need c 17 (loss_shown x) loss_most >> ok (q + n * 24 + k))
    go false b c e = e
    go true false c e = e
    go true true false e = e
    go true true true e = absurd (refused≢ok e)

module _ (n : ℕ) (x : Loss) (k : ℕ) (g : mag x < 2147483648) where
  counted_back : (least : ℕ) → counted_size least n (to_z w32 (of_z w32 x)) k ≡ counted_size least n x k
  counted_back least = ap (λ (y : Loss). counted_size least n y k) (bits_back x g)

  pub size_told : (least m : ℕ) → Some m ≡ value_in (counted_size least n (to_z w32 (of_z w32 x)) k) → ok m ≡ counted_size least n x k
  size_told least m h = value_is _ m h ∙ counted_back least

  pub none_told : (least : ℕ) → None ≡ value_in (counted_size least n (to_z w32 (of_z w32 x)) k) → value_in (counted_size 0 n (to_z w32 (of_z w32 x)) k) ≡ None
  none_told least h = let r = none_refused _ (sym h) in ap value_in (sym (reason_same least 0 n (to_z w32 (of_z w32 x)) k r.0 (sym r.1)))

  pub why_told : (least : ℕ) (r : Refusal) → refused r ≡ counted_size 0 n (to_z w32 (of_z w32 x)) k → refused r ≡ counted_size least n x k
  why_told least r h = reason_same 0 least n x k r (h ∙ counted_back 0)

pub ruleset checks = (rules, size_told, none_told, why_told)

module _ (l : BlockLists) (k : ℕ) where
  lists_same : (p q : ℕ) (r : Refusal) → refused r ≡ lists_size p l k → refused r ≡ lists_size q l k
  unfolding lists_size need ◌>>◌
  lists_same p q r = go (blocks_agree l)
    where
      n : ℕ
      n = length l.fractions

      x : Loss
      x = tested_loss no_loss l.losses

      go : (a : Bool) → refused r ≡ (need a 24 0 0 >> counted_size p n x k) → refused r ≡ (need a 24 0 0 >> counted_size q n x k)
      go false e = e
      go true e = reason_same p q n x k r e

  module _ (t : Bool) (a : t ≡ blocks_agree l) where
    lists_counted : t ≡ true → (least : ℕ) → counted_size least (length l.fractions) (tested_loss no_loss l.losses) k ≡ lists_size least l k
    unfolding lists_size need ◌>>◌
    lists_counted q least = sym (rw (← a, q))

    lists_none : (least : ℕ) → t ≡ false → None ≡ value_in (lists_size least l k)
    unfolding lists_size need ◌>>◌
    lists_none least q = sym (rw (← a, q))

    pub lists_other : t ≡ false → refused (refusal 24 0 0) ≡ lists_size 0 l k
    unfolding lists_size need ◌>>◌
    lists_other q = sym (rw (← a, q))

    lists_size_lem : (least : ℕ) (x : Loss) (o : Option ℕ) → t ≡ true → loss_in x ≡ loss_in (tested_loss no_loss l.losses) → o ≡ value_in (counted_size least (length l.fractions) x k) → o ≡ value_in (lists_size least l k)
    lists_size_lem least x o q f e = e ∙ size_by_fit least (length l.fractions) x (tested_loss no_loss l.losses) k f ∙ ap value_in (lists_counted q least)

    module _ (x : Loss) (q : t ≡ true) (g : mag x < 2147483648) (f : x ≡ tested_loss no_loss l.losses) where
      counted_as : counted_size 0 (length l.fractions) (to_z w32 (of_z w32 x)) k ≡ lists_size 0 l k
      counted_as = ap (λ (y : Loss). counted_size 0 (length l.fractions) y k) (bits_back x g ∙ f) ∙ lists_counted q 0

      pub counted_none : value_in (lists_size 0 l k) ≡ None → value_in (counted_size 0 (length l.fractions) (to_z w32 (of_z w32 x)) k) ≡ None
      counted_none z = ap value_in counted_as ∙ z

      pub lists_why : (r : Refusal) → refused r ≡ counted_size 0 (length l.fractions) (to_z w32 (of_z w32 x)) k → refused r ≡ lists_size 0 l k
      lists_why r h = h ∙ counted_as

-- of lists whose lengths are tested one by one, after the number of blocks
module _ (fs : List ℕ) (ls : List Loss) (ws : List ℕ) (k least : ℕ) where
  abbrev lent : BlockLists
  lent = block_lists fs ls ws

  pub lists_many : 31 < length fs → None ≡ value_in (lists_size least lent k)
  lists_many h = go (blocks_agree lent) refl
    where
      go : (t : Bool) → t ≡ blocks_agree lent → None ≡ value_in (lists_size least lent k)
      go false a = lists_none lent k false a least refl
      go true a = count_none (length fs) (tested_loss no_loss ls) k least h ∙ ap value_in (lists_counted lent k true a refl least)

  pub losses_other : (length ls ≡ length fs → ⊥) → None ≡ value_in (lists_size least lent k)
  losses_other h = lists_none lent k false (lists_loss fs ls ws h) least refl

  module _ (h : length ls ≡ length fs) where
    pub words_other : (length ws ≡ length fs * 5 → ⊥) → None ≡ value_in (lists_size least lent k)
    words_other q = lists_none lent k false (words_differ fs ls ws h (λ e. q (omega arith))) least refl

    pub lists_tested : (x : Loss) (o : Option ℕ) → length ws ≡ length fs * 5 → mag x < 2147483648 → loss_in x ≡ loss_in (tested_loss no_loss ls)
        → o ≡ value_in (counted_size least (length fs) (to_z w32 (of_z w32 x)) k) → o ≡ value_in (lists_size least lent k)
    lists_tested x o q g e f = lists_size_lem lent k true (lists_agree fs ls ws h q) least x o refl e (rw (bits_back x g) at f)

-- ---- over the reporter

reporter_least : (r : Reporter) → least_of r ≡ 4 + length (put (reporter_widths r) (reporter_fields r))
unfolding put be
reporter_least (receiver ssrc) = refl
reporter_least (sender ssrc ntp rtp packets octets) = refl

least_most : (r : Reporter) → least_of r ≤ 28
least_most (receiver ssrc) = omega arith
least_most (sender ssrc ntp rtp packets octets) = omega arith

module _ (r : Reporter) (l : BlockLists) where
  content_length : 4 + length (content_bytes (report r (blocks_lent l) [])) ≡ least_of r + length l.fractions * 24
  unfolding content_bytes
  content_length = simp (append-nil, length-append) (omega (arith, reporter_least r, length_blocks (blocks_lent l), length_lent_blocks l.fractions l.losses l.words))

  module _ (k : ℕ) where
    pub lists_report : lists_size (least_of r) l k ≡ calculate_size (give_report r l k)
    unfolding lists_size counted_size own_tests need ◌>>◌
    lists_report = go (blocks_agree l) refl (leb (length l.fractions) 31) refl (padding_ok k) refl (loss_in (tested_loss no_loss l.losses)) refl
      where
        go : (a : Bool) → blocks_agree l ≡ a → (b : Bool) → leb (length l.fractions) 31 ≡ b → (c : Bool) → padding_ok k ≡ c → (d : Bool) → loss_in (tested_loss no_loss l.losses) ≡ d → lists_size (least_of r) l k ≡ calculate_size (give_report r l k)
        go false e b f c g d h = simp e (size_refused (give_report r l k) (simp e))
        go true e false f c g d h = simp (e, f) (size_refused (give_report r l k) (simp (e, f)))
        go true e true f false g d h = simp (e, f, g) (size_refused (give_report r l k) (simp (e, f, g)))
        go true e true f true g false h = simp (e, f, g, h) (size_refused (give_report r l k) (simp (e, f, g, losses_decided l.losses, h)))
        go true e true f true g true h =
            let n : length l.fractions ≤ 31 = leb-true _ _ f in
            let m : k ≤ 252 = padding_most _ k refl g in
            simp (e, f, g, h) (size_ok (give_report r l k) (least_of r + length l.fractions * 24 + k) (simp (e, f, g, losses_decided l.losses, h)) (omega (arith, content_length)) (omega (arith, least_most r)))

-- a size goes by the least length alone, a refusal by nothing of who reports
module _ (l : BlockLists) (k : ℕ) (q r : Reporter) where
  pub size_same : least_of q ≡ least_of r → calculate_size (give_report q l k) ≡ calculate_size (give_report r l k)
  size_same e = sym (lists_report q l k) ∙ ap (λ (m : ℕ). lists_size m l k) e ∙ lists_report r l k

  pub why_same : (x : Refusal) → refused x ≡ calculate_size (give_report q l k) → refused x ≡ calculate_size (give_report r l k)
  why_same x h = lists_same l k (least_of q) (least_of r) x (h ∙ sym (lists_report q l k)) ∙ lists_report r l k

-- what the blocks say of a report of them
module _ (r : Reporter) (l : BlockLists) (k : ℕ) where
  pub report_size : (least : ℕ) (o : Option ℕ) → least ≡ least_of r → o ≡ value_in (lists_size least l k) → o ≡ value_in (calculate_size (give_report r l k))
  report_size least o e h = h ∙ ap (λ (m : ℕ). value_in (lists_size m l k)) e ∙ ap value_in (lists_report r l k)

  pub report_none : value_in (calculate_size (give_report r l k)) ≡ None → value_in (lists_size 0 l k) ≡ None
  report_none z =
      let x = none_refused (lists_size (least_of r) l k) (ap value_in (lists_report r l k) ∙ z) in
      ap value_in (sym (lists_same l k (least_of r) 0 x.0 (sym x.1)))

  pub report_why : (x : Refusal) → refused x ≡ lists_size 0 l k → refused x ≡ calculate_size (give_report r l k)
  report_why x h = lists_same l k 0 (least_of r) x h ∙ lists_report r l k

-- what an accepted size leaves known
pub sized_fits : (r : Reporter) (l : BlockLists) (k n space : ℕ) → calculate_size (give_report r l k) ≡ ok n → n ≤ space → ReportFits (least_of r) l k n space
unfolding own_tests
sized_fits r l k n space f h =
    let z = sized (give_report r l k) n f in
    let a = need_inv _ _ _ _ _ z.own in
    let b = need_inv _ _ _ _ _ a.1 in
    let c = need_inv _ _ _ _ _ b.1 in
    record {
      agree = a.0;
      count = leb-true _ _ b.0;
      padding = padding_most _ k refl c.0;
      size = z.is ∙ omega (arith, content_length r l);
      most = z.most;
      room = h;
    }

-- ---- the bytes

pub padding_fits_lem : (least : ℕ) (l : BlockLists) (k n space m : ℕ) → ReportFits least l k n space → m ≡ space → (k ≤ 252) × (n - k + k ≤ m)
padding_fits_lem least l k n space m w e = let s = w.size in let o = w.room in (w.padding, omega arith)

pub ssrc_laid : (ssrc : ℕ) (l l₁ : List ℕ) → l₁ ≡ store 4 (be 4 ssrc) l → l₁ ≡ store 4 (put receiver_widths (ssrc ∷ [])) l
unfolding put
ssrc_laid ssrc l l₁ e = e ∙ rw append-nil

pub head_after : (r : Reporter) (k count t size : ℕ) (l l₁ l₂ : List ℕ) → t ≡ type (report r [] []) → l₁ ≡ store 0 (header k count t size) l → l₂ ≡ store 4 (put (reporter_widths r) (reporter_fields r)) l₁ → l₂ ≡ head_laid r k count size l
head_after r k count t size l l₁ l₂ h e f = f ∙ rw (e, h)

module _ (i : SenderInfo) where
  pub info_laid : (l l₁ l₂ l₃ l₄ l₅ : List ℕ) → 28 ≤ length l → l₁ ≡ store 4 (be 4 i.ssrc) l → l₂ ≡ store 8 (be 8 i.ntp_timestamp) l₁ → l₃ ≡ store 16 (be 4 i.rtp_timestamp) l₂
      → l₄ ≡ store 20 (be 4 i.packet_count) l₃ → l₅ ≡ store 24 (be 4 i.octet_count) l₄ → l₅ ≡ store 4 (put sender_widths (reporter_fields (sender_of i))) l
  unfolding put be
  info_laid l l₁ l₂ l₃ l₄ l₅ h e₁ e₂ e₃ e₄ e₅ =
      e₅ ∙ rw (e₄, e₃, e₂, e₁) (stores 4 (be 4 i.ssrc) (be 8 i.ntp_timestamp ∷ be 4 i.rtp_timestamp ∷ be 4 i.packet_count ∷ be 4 i.octet_count ∷ []) l h)

same_type : (r : Reporter) (bs : List Block) → type (report r [] []) ≡ type (report r bs [])
same_type (receiver ssrc) bs = refl
same_type (sender ssrc ntp rtp packets octets) bs = refl

-- head, blocks and padding are the report
pub report_laid : (r : Reporter) (least : ℕ) (b : BlockLists) (k n size : ℕ) (l l₂ l₃ l₄ : List ℕ) → ReportFits (least_of r) b k size (length l) → least ≡ least_of r → n ≡ length b.fractions
    → l₂ ≡ head_laid r k n size l → l₃ ≡ store least (blocks_bytes (blocks_lent b)) l₂ → l₄ ≡ store (size - k) (padding_bytes k) l₃
    → l₄ ≡ store 0 (layout (packet_given (give_report r b k))) l
unfolding content_bytes
report_laid r least b k n size l l₂ l₃ l₄ w q c e₂ e₃ e₄ =
    let z = w.size in
    let m = w.room in
    let n = length_lent_blocks b.fractions b.losses b.words in
    let cl = content_length r b in
    let o = length_blocks (blocks_lent b) in
    let p = reporter_least r in
    let h : List ℕ = store 0 (header k (length b.fractions) (type (report r [] [])) size) l in
    let ln = header_long k (length b.fractions) (type (report r [] [])) size l h (omega arith) refl in
    let f : l₂ ≡ head_laid r k (length b.fractions) size l = e₂ ∙ ap (λ (i : ℕ). head_laid r k i size l) c in
    let p = parts_laid 4 least (put (reporter_widths r) (reporter_fields r)) (blocks_bytes (blocks_lent b)) h l₂ l₃ f e₃ (omega arith) (omega arith) in
    packet_laid (report r (blocks_lent b) []) k size (size - k) l h l₃ l₄ (omega arith) m (omega arith) (rw (n, ← same_type r (blocks_lent b))) (rw append-nil p) e₄

pub ruleset reports = (writes, not-true, not-false, lists_many, losses_other, words_other, lists_tested, lists_other, counted_none, lists_why, report_size, report_none, report_why, padding_fits_lem, ssrc_laid, info_laid, head_after, report_laid)

-- ---- the views lose nothing

abbrev receives : Reporter → Bool
receives (receiver ssrc) = true
receives (sender ssrc ntp rtp packets octets) = false

pub receiver≢sender : (a : ReceiverInfo) (b : SenderInfo) → receiver_of a ≡ sender_of b → ⊥
receiver≢sender a b h = true≢false (ap receives h)

pub receiver_of_injective : (a b : ReceiverInfo) → receiver_of a ≡ receiver_of b → a ≡ b
receiver_of_injective a b h = let s : a.ssrc ≡ b.ssrc = cc in λ i. record { ssrc = s i }

pub sender_of_injective : (a b : SenderInfo) → sender_of a ≡ sender_of b → a ≡ b
sender_of_injective a b h =
    let s : a.ssrc ≡ b.ssrc = cc in
    let n : a.ntp_timestamp ≡ b.ntp_timestamp = cc in
    let r : a.rtp_timestamp ≡ b.rtp_timestamp = cc in
    let p : a.packet_count ≡ b.packet_count = cc in
    let o : a.octet_count ≡ b.octet_count = cc in
    λ i. record { ssrc = s i; ntp_timestamp = n i; rtp_timestamp = r i; packet_count = p i; octet_count = o i }
