-- What a state holds since its last start: the exact counts modulo 2^32 and, where few packets came, these counts themselves.
use lib.IntN.{ℤ, pos, negsuc, sub_ℕ}
use Rattle.rfc3550.proofs.Prelude.{ℕ, suc, ◌+◌, ◌-◌, ◌*◌, ◌/◌, ◌%◌, ◌<◌, ◌≤◌, ◌≡◌, refl, sym, ap, ◌∙◌, subst, Bool, true, false, List, [], ◌∷◌, map, ◌⊎◌, inl, inr, arith, ltb, leb, eqb, ltb-true, ltb-false, eqb-false, lt-ltb, le-ltb, add-zero, sub-zero}
use Rattle.rfc3550.specs.Answer.{ok, need, ◌>>◌, pick}
use Rattle.rfc3550.specs.Loss.{LossFits}
use Rattle.rfc3550.specs.Packet.{Block, Reporter, All, BlockValid}
use Rattle.rfc3550.specs.Write.{lists_of, give_report, loss_tests, own_tests, tests, calculate_size, room, write}
use Rattle.rfc3550.specs.Writer.{Writer, add, add_tests, call}
use Rattle.rfc3550.specs.Reception.{minus16, minus32, plus32, signed32, Reception, Verdict, waits, starts, ahead, jumps, behind, verdict, accepted, update_seq, timed, update, extended, expected, clamped, fraction_lost, expected_interval, received_interval, block_of, reported, Reported, in_probation, made, report_block}
use Rattle.rfc3550.specs.History.{came, is_start, counts, moves}
use Rattle.rfc3550.proofs.Answers.{true≢false, Never, never_need, never_then, never_bind}
use Rattle.rfc3550.proofs.Losses.{loss_bits_lt, fits_loss_in}

pub by_test : {P : Type 0} (t : Bool) → (t ≡ true → P) → (t ≡ false → P) → P
by_test true f g = f refl
by_test false f g = g refl

-- ---- a number read as signed, by its highest bit

pub signed_low : (n : ℕ) → n < 2147483648 → signed32 n ≡ pos n
signed_low n h = rw (lt-ltb n 2147483648 h)

pub signed_high : (n : ℕ) → 2147483648 ≤ n → n < 4294967296 → signed32 n ≡ negsuc (4294967295 - n)
signed_high n h k = let e : 4294967296 - suc n ≡ 4294967295 - n = omega arith in rw (le-ltb n 2147483648 h, lt-ltb n 4294967296 k, e)

-- a difference modulo 2^32 is the difference itself, from −2^31 to 2^31 − 1

pub signed_exact : (a b : ℕ) → a < b + 2147483648 → b ≤ a + 2147483648 → b ≤ 4294967296 → signed32 (minus32 a b) ≡ sub_ℕ a b
signed_exact a b h k m = go (ltb a b) refl
  where
    go : (t : Bool) → ltb a b ≡ t → signed32 (minus32 a b) ≡ sub_ℕ a b
    go true e =
        let l : a < b = ltb-true a b e in
        let d : minus32 a b ≡ 4294967296 - (b - a) = omega arith in
        let n : 4294967295 - (4294967296 - (b - a)) ≡ b - suc a = omega arith in
        rw (d, e, signed_high (4294967296 - (b - a)) (omega arith) (omega arith), n)
    go false e =
        let l : b ≤ a = ltb-false a b e in
        let d : minus32 a b ≡ a - b = omega arith in
        rw (d, e, signed_low (a - b) (omega arith))

-- ---- what A.1 says, by its cases

module _ (s : Reception) (seq : ℕ) where
  pub by_verdict : (P : Verdict → Type 0)
      → (0 < s.probation → (n : ℕ) → 0 < n → P (waits n))
      → P starts
      → (s.probation ≤ 0 → minus16 seq s.max_seq < 3000 → P (ahead (minus16 seq s.max_seq)))
      → (s.probation ≤ 0 → P jumps)
      → (s.probation ≤ 0 → P behind)
      → P (verdict s seq)
  unfolding verdict
  by_verdict P w st a j b =
      by_test (ltb 0 s.probation)
      (λ e₁.
      rw e₁ (by_test (eqb (minus16 seq s.max_seq) 1)
      (λ e₂.
      rw e₂ (by_test (eqb s.probation 1)
      (λ e₃. rw e₃ st)
      (λ e₃. rw e₃ (w (ltb-true 0 s.probation e₁) (s.probation - 1) (omega (arith, ltb-true 0 s.probation e₁, eqb-false s.probation 1 e₃))))))
      (λ e₂. rw e₂ (w (ltb-true 0 s.probation e₁) 1 (omega arith)))))
      (λ e₁.
      rw e₁ (by_test (ltb (minus16 seq s.max_seq) 3000)
      (λ e₂. rw e₂ (a (ltb-false 0 s.probation e₁) (ltb-true (minus16 seq s.max_seq) 3000 e₂)))
      (λ e₂.
      rw e₂ (by_test (leb (minus16 seq s.max_seq) 65436)
      (λ e₃.
      rw e₃ (by_test (eqb seq s.bad_seq)
      (λ e₄. rw e₄ st)
      (λ e₄. rw e₄ (j (ltb-false 0 s.probation e₁)))))
      (λ e₃. rw e₃ (b (ltb-false 0 s.probation e₁)))))))

  -- the state after a packet is that of A.1 but for transit and jitter
  pub by_update : (timestamp arrival : ℕ) (P : Reception → Type 0) → P (update_seq (verdict s seq) s seq) → ((f : Bool) (t : ℕ) (u : Reception) → P u → P (timed f t u)) → P (update s seq timestamp arrival).0
  unfolding update
  by_update timestamp arrival P h k = go (accepted (verdict s seq))
    where
      go : (t : Bool) → P (pick {A = Reception × Bool} t (timed (ltb 0 s.probation) (minus32 arrival timestamp) (update_seq (verdict s seq) s seq), true) (update_seq (verdict s seq) s seq, false)).0
      go true = k (ltb 0 s.probation) (minus32 arrival timestamp) (update_seq (verdict s seq) s seq) h
      go false = h

-- ---- since a start with number `seq`: the sequence moved by m and a packets were accepted after it; e were expected and r received since the
-- last block or that start

pub record Holds (s : Reception) (seq m a e r : ℕ) : Type 0 where
  pub live : s.probation ≡ 0
  pub low : seq < 65536
  pub base : s.base_seq ≡ seq
  pub highest : s.max_seq ≡ (seq + m) % 65536
  pub cycles : s.cycles ≡ ((seq + m) / 65536 * 65536) % 4294967296
  pub received : s.received ≡ (1 + a) % 4294967296
  pub expected_prior : s.expected_prior ≡ (1 + m - e) % 4294967296
  pub received_prior : s.received_prior ≡ (1 + a - r) % 4294967296
  pub most_expected : e ≤ 1 + m
  pub most_received : r ≤ 1 + a
  pub not_both : (r ≡ 1 + a) ⊎ (e ≤ m)

pub start_holds : (s : Reception) (seq : ℕ) → seq < 65536 → Holds (update_seq starts s seq) seq 0 0 1 1
unfolding update_seq
start_holds s seq h =
    record {
      live = refl;
      low = h;
      base = refl;
      highest = omega arith;
      cycles = omega arith;
      received = omega arith;
      expected_prior = omega arith;
      received_prior = omega arith;
      most_expected = omega arith;
      most_received = omega arith;
      not_both = inl refl;
    }

pub timed_holds : {seq m a e r : ℕ} (f : Bool) (t : ℕ) (s : Reception) → Holds s seq m a e r → Holds (timed f t s) seq m a e r
timed_holds f t s h =
    record {
      live = h.live;
      low = h.low;
      base = h.base;
      highest = h.highest;
      cycles = h.cycles;
      received = h.received;
      expected_prior = h.expected_prior;
      received_prior = h.received_prior;
      most_expected = h.most_expected;
      most_received = h.most_received;
      not_both = h.not_both;
    }

-- the sequence after a difference d below 3000
next_highest : (x m d n : ℕ) → m ≡ x % 65536 → n < 65536 → d ≡ minus16 n m → n ≡ (x + d) % 65536
next_highest x m d n h k q = omega arith

next_cycles : (x m d n c : ℕ) → m ≡ x % 65536 → d < 3000 → n < 65536 → d ≡ minus16 n m → c ≡ (x / 65536 * 65536) % 4294967296
    → pick (ltb n m) (plus32 c 65536) c ≡ ((x + d) / 65536 * 65536) % 4294967296
next_cycles x m d n c h l k q z =
    by_test (ltb n m) (λ t. let i : n < m = ltb-true n m t in rw t (omega arith)) (λ t. let i : m ≤ n = ltb-false n m t in rw t (omega arith))

next_received : (x a : ℕ) → x ≡ (1 + a) % 4294967296 → plus32 x 1 ≡ (1 + (a + 1)) % 4294967296
next_received x a q = omega arith

sums : (c x n : ℕ) → c ≡ (n / 65536 * 65536) % 4294967296 → x ≡ n % 65536 → plus32 c x ≡ n % 4294967296
sums c x n h k = omega arith

counts_on : (seq m : ℕ) → seq < 65536 → plus32 (minus32 ((seq + m) % 4294967296) seq) 1 ≡ (1 + m) % 4294967296
counts_on seq m h = omega arith

below : (n : ℕ) → n < 4294967296 → n % 4294967296 ≡ n
below n h = omega arith

since : (n e x : ℕ) → n < 4294967296 → e ≤ n → x ≡ (n - e) % 4294967296 → minus32 n x ≡ e
since n e x h k q = omega arith

-- after an event that is no start, by d and c more; a state that keeps base and priors
module _ (s : Reception) (seq m a e r : ℕ) (h : Holds s seq m a e r) where
  more : (d c : ℕ) → (r ≡ 1 + a) ⊎ (e ≤ m) → (r + c ≡ 1 + (a + c)) ⊎ (e + d ≤ m + d)
  more d c (inl z) = inl (omega arith)
  more d c (inr z) = inr (omega arith)

  on : (u : Reception) (d c : ℕ) → u.probation ≡ s.probation → u.base_seq ≡ s.base_seq → u.expected_prior ≡ s.expected_prior → u.received_prior ≡ s.received_prior
      → u.max_seq ≡ (seq + (m + d)) % 65536 → u.cycles ≡ ((seq + (m + d)) / 65536 * 65536) % 4294967296 → u.received ≡ (1 + (a + c)) % 4294967296
      → Holds u seq (m + d) (a + c) (e + d) (r + c)
  on u d c p b x y q k n =
      let f : 1 + m - e ≡ 1 + (m + d) - (e + d) = omega arith in
      let g : 1 + a - r ≡ 1 + (a + c) - (r + c) = omega arith in
      record {
        live = p ∙ h.live;
        low = h.low;
        base = b ∙ h.base;
        highest = q;
        cycles = k;
        received = n;
        expected_prior = x ∙ h.expected_prior ∙ ap (λ (x : ℕ). x % 4294967296) f;
        received_prior = y ∙ h.received_prior ∙ ap (λ (x : ℕ). x % 4294967296) g;
        most_expected = omega (arith, h.most_expected);
        most_received = omega (arith, h.most_received);
        not_both = more d c h.not_both;
      }

  module _ (n : ℕ) where
    abbrev After : Verdict → Type 0
    After v = is_start (came v) ≡ false → Holds (update_seq v s n) seq (m + moves v) (a + counts v) (e + moves v) (r + counts v)

    further : n < 65536 → minus16 n s.max_seq < 3000 → After (ahead (minus16 n s.max_seq))
    unfolding update_seq
    further k l z =
        let c : seq + m + minus16 n s.max_seq ≡ seq + (m + minus16 n s.max_seq) = omega arith in
        on (update_seq (ahead (minus16 n s.max_seq)) s n) (minus16 n s.max_seq) 1 refl refl refl refl
        (next_highest (seq + m) s.max_seq (minus16 n s.max_seq) n h.highest k refl ∙ ap (λ (x : ℕ). x % 65536) c)
        (next_cycles (seq + m) s.max_seq (minus16 n s.max_seq) n s.cycles h.highest l k refl h.cycles ∙ ap (λ (x : ℕ). (x / 65536 * 65536) % 4294967296) c)
        (next_received s.received a h.received)

    passed : After jumps
    unfolding update_seq
    passed z = on (update_seq jumps s n) 0 0 refl refl refl refl (h.highest ∙ ap (λ (x : ℕ). (seq + x) % 65536) (sym (add-zero m))) (h.cycles ∙ ap (λ (x : ℕ). ((seq + x) / 65536 * 65536) % 4294967296) (sym (add-zero m))) (h.received ∙ ap (λ (x : ℕ). (1 + x) % 4294967296) (sym (add-zero a)))

    again : After behind
    unfolding update_seq
    again z = on (update_seq behind s n) 0 1 refl refl refl refl (h.highest ∙ ap (λ (x : ℕ). (seq + x) % 65536) (sym (add-zero m))) (h.cycles ∙ ap (λ (x : ℕ). ((seq + x) / 65536 * 65536) % 4294967296) (sym (add-zero m))) (next_received s.received a h.received)

    pub packet_holds : n < 65536 → (timestamp arrival : ℕ) → is_start (came (verdict s n)) ≡ false
        → Holds (update s n timestamp arrival).0 seq (m + moves (verdict s n)) (a + counts (verdict s n)) (e + moves (verdict s n)) (r + counts (verdict s n))
    packet_holds k timestamp arrival z =
        by_update s n timestamp arrival (λ u. Holds u seq (m + moves (verdict s n)) (a + counts (verdict s n)) (e + moves (verdict s n)) (r + counts (verdict s n)))
        (by_verdict s n After (λ p i q. absurd (omega (arith, h.live))) (λ q. absurd (true≢false q)) (λ p l. further k l) (λ p. passed) (λ p. again) z)
        (λ f t u. timed_holds f t u)

  -- ---- the figures

  extended_wrapped : extended s ≡ (seq + m) % 4294967296
  extended_wrapped = sums s.cycles s.max_seq (seq + m) h.cycles h.highest

  expected_wrapped : expected s ≡ (1 + m) % 4294967296
  expected_wrapped = ap (λ (x : ℕ). plus32 (minus32 x s.base_seq) 1) extended_wrapped ∙ ap (λ (x : ℕ). plus32 (minus32 ((seq + m) % 4294967296) x) 1) h.base ∙ counts_on seq m h.low

  pub report_holds : (ssrc lsr dlsr : ℕ) → Holds (report_block s ssrc lsr dlsr).1 seq m a 0 0
  unfolding report_block
  report_holds ssrc lsr dlsr =
      let l : s.probation ≤ 0 = omega (arith, h.live) in
      rw (le-ltb 0 s.probation l)
      (record {
        live = h.live;
        low = h.low;
        base = h.base;
        highest = h.highest;
        cycles = h.cycles;
        received = h.received;
        expected_prior = expected_wrapped ∙ ap (λ (x : ℕ). x % 4294967296) (sym (sub-zero (1 + m)));
        received_prior = h.received ∙ ap (λ (x : ℕ). x % 4294967296) (sym (sub-zero (1 + a)));
        most_expected = omega arith;
        most_received = omega arith;
        not_both = inr (omega arith);
      })

  -- where few packets came
  module _ (few : a < 2147483648) (near : m < 2147483648) where
    received_exact : s.received ≡ 1 + a
    received_exact = omega (arith, h.received)

    extended_exact : extended s ≡ seq + m
    extended_exact = extended_wrapped ∙ below (seq + m) (omega (arith, h.low))

    expected_exact : expected s ≡ 1 + m
    expected_exact = expected_wrapped ∙ below (1 + m) (omega arith)

    expected_since : expected_interval s ≡ e
    expected_since = ap (λ (x : ℕ). minus32 x s.expected_prior) expected_exact ∙ since (1 + m) e s.expected_prior (omega arith) h.most_expected h.expected_prior

    received_since_lem : received_interval s ≡ r
    received_since_lem = ap (λ (x : ℕ). minus32 x s.received_prior) received_exact ∙ since (1 + a) r s.received_prior (omega arith) h.most_received h.received_prior

    lost_exact : signed32 (minus32 (expected s) s.received) ≡ sub_ℕ (1 + m) (1 + a)
    lost_exact = rw (expected_exact, received_exact) (signed_exact (1 + m) (1 + a) (omega arith) (omega arith) (omega arith))

    interval_exact : signed32 (minus32 (expected_interval s) (received_interval s)) ≡ sub_ℕ e r
    interval_exact = rw (expected_since, received_since_lem) (signed_exact e r (close h.not_both) (omega (arith, h.most_received)) (omega (arith, h.most_received)))
      where
        close : (r ≡ 1 + a) ⊎ (e ≤ m) → e < r + 2147483648
        close (inl z) = omega (arith, h.most_expected)
        close (inr z) = omega arith

    pub exact : (ssrc lsr dlsr : ℕ) → (s.received ≡ 1 + a) × ((report_block s ssrc lsr dlsr).0 ≡ made (record { ssrc = ssrc; fraction = fraction_lost (sub_ℕ e r) e; lost = clamped (sub_ℕ (1 + m) (1 + a)); sequence = seq + m; jitter = s.jitter / 16; lsr = lsr; dlsr = dlsr }))
    unfolding report_block block_of
    exact ssrc lsr dlsr =
        let l : s.probation ≤ 0 = omega (arith, h.live) in
        (received_exact, rw (le-ltb 0 s.probation l, lost_exact, interval_exact, expected_since, extended_exact))

-- ---- the block is always writable

clamped_fits : (l : ℤ) → LossFits (clamped l)
clamped_fits (pos n) = omega arith
clamped_fits (negsuc n) = omega arith

lost_fits : (s : Reception) → LossFits (clamped (signed32 (minus32 (expected s) s.received)))
lost_fits s = clamped_fits (signed32 (minus32 (expected s) s.received))

fraction_fits : (l : ℤ) (e : ℕ) → fraction_lost l e < 256
fraction_fits (pos n) e = by_test (eqb e 0) (λ q. rw q (omega arith)) (λ q. rw q (omega arith))
fraction_fits (negsuc n) e = omega arith

pub block_valid : (s : Reception) (ssrc lsr dlsr : ℕ) → s.jitter < 4294967296 → ssrc < 4294967296 → lsr < 4294967296 → dlsr < 4294967296 → BlockValid (block_of s ssrc lsr dlsr)
unfolding block_of
block_valid s ssrc lsr dlsr j a b c =
    ((a, (fraction_fits (signed32 (minus32 (expected_interval s) (received_interval s))) (expected_interval s), (loss_bits_lt (block_of s ssrc lsr dlsr).lost, (omega arith, (omega arith, (b, (c, tt))))))), lost_fits s)

-- a block that some state blockReply
abbrev pub Gave : Block → Type 0
Gave b = (s : Reception) × (ssrc : ℕ) × (lsr : ℕ) × (dlsr : ℕ) × ((report_block s ssrc lsr dlsr).0 ≡ made b)

pub gave_fits : (b : Block) → Gave b → LossFits b.lost
unfolding report_block block_of
gave_fits b (s, ssrc, lsr, dlsr, e) = go (ltb 0 s.probation) e
  where
    go : (t : Bool) → (pick {A = Reported × Reception} t (in_probation, s) (made (block_of s ssrc lsr dlsr), reported s)).0 ≡ made b → LossFits b.lost
    go true q = absurd (let z : true ≡ false = cc in true≢false z)
    go false q = let z : block_of s ssrc lsr dlsr ≡ b = cc in subst (λ (b : Block). LossFits b.lost) z (lost_fits s)

tests_pass : (bs : List Block) → All Gave bs → loss_tests (map (λ (b : Block). b.lost) bs) ≡ ok tt
unfolding loss_tests need ◌>>◌
tests_pass [] h = refl
tests_pass (b ∷ bs) h = rw (fits_loss_in b.lost (gave_fits b h.0)) (tests_pass bs h.1)

module _ (r : Reporter) (bs : List Block) (k : ℕ) (h : All Gave bs) where
  tests_never : Never 17 (tests (give_report r (lists_of bs) k))
  unfolding tests own_tests
  tests_never =
      never_then 17 _ _
      (never_then 17 _ _ (never_need 17 _ 24 0 0 (λ e. omega arith))
      (never_then 17 _ _ (never_need 17 _ 18 _ _ (λ e. omega arith))
      (never_then 17 _ _ (never_need 17 _ 11 _ _ (λ e. omega arith)) (rw (tests_pass bs h) tt))))
      (never_need 17 _ 22 0 0 (λ e. omega arith))

  pub write_never : (l : List ℕ) → Never 17 (write (give_report r (lists_of bs) k) l).0
  unfolding write room calculate_size
  write_never l =
      never_bind 17 _ _ (never_then 17 _ _ tests_never tt) (λ n. never_then 17 _ _ (never_need 17 _ 10 _ _ (λ e. omega arith)) tt)

  pub call_never : (w : Writer) (l : List ℕ) → Never 17 (call (add (give_report r (lists_of bs) k)) w l).0
  unfolding call add_tests
  call_never w l =
      never_then 17 _ _ (never_need 17 _ 26 0 0 (λ e. omega arith))
      (never_then 17 _ _ (never_need 17 _ 29 0 0 (λ e. omega arith))
      (never_then 17 _ _ (never_need 17 _ 27 0 0 (λ e. omega arith))
      (never_then 17 _ _ tests_never
      (never_then 17 _ _ (never_need 17 _ 10 _ _ (λ e. omega arith)) (never_need 17 _ 10 _ _ (λ e. omega arith))))))
