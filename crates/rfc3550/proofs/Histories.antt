-- Histories of a source: every one is in probation or has a last start, and from that start on its figures are exact. And the same of what functions
-- returned, for any code.
use Rattle.rfc3550.proofs.Prelude.{ℕ, ◌+◌, ◌<◌, ◌≤◌, ◌/◌, ◌≡◌, refl, sym, ap, ◌∙◌, subst, Bool, true, false, ◌&&◌, not, not-true, List, [], ◌∷◌, ◌++◌, map, ◌⊎◌, inl, inr, arith, lt-ltb, add-zero, zero-add, add_assoc}
use Rattle.rfc3550.specs.Packet.{All}
use Rattle.rfc3550.specs.Reception.{Reception, new_reception, Verdict, waits, starts, ahead, jumps, behind, verdict, update_seq, update, made, report_block}
use Rattle.rfc3550.specs.History.{Happening, packet, block, HappeningTyped, reception_after, reception_after_all, Reply, reply, replies, Outcome, came, asked, outcome, outcomes, is_start, no_start, packets_in, counts, moves, accepted_in, moved_in, interval, received_since, block_since}
use Rattle.rfc3550.specs.Returned.{Stepper, Ran}
use Rattle.rfc3550.proofs.Answers.{true≢false, and_inv}
use Rattle.rfc3550.proofs.Receptions.{by_test, by_verdict, by_update, Holds, start_holds, timed_holds, packet_holds, report_holds, exact}

-- ---- the last start

start_is : (v : Verdict) → is_start (came v) ≡ true → v ≡ starts
start_is (waits n) e = absurd (true≢false (sym e))
start_is starts e = refl
start_is (ahead d) e = absurd (true≢false (sym e))
start_is jumps e = absurd (true≢false (sym e))
start_is behind e = absurd (true≢false (sym e))

pub record LastStart (s : Reception) (es : List Happening) : Type 0 where
  pub before : List Happening
  pub seq : ℕ
  pub timestamp : ℕ
  pub arrival : ℕ
  pub since : List Happening
  pub split : es ≡ before ++ (packet seq timestamp arrival ∷ since)
  pub start : verdict (reception_after_all s before) seq ≡ starts
  pub none : no_start (outcomes (update (reception_after_all s before) seq timestamp arrival).0 since) ≡ true

starts_here : (s : Reception) (e : Happening) (es : List Happening) → is_start (outcome s e) ≡ true → no_start (outcomes (reception_after s e) es) ≡ true → LastStart s (e ∷ es)
unfolding reception_after_all
starts_here s (packet seq timestamp arrival) es h n = record { before = []; seq = seq; timestamp = timestamp; arrival = arrival; since = es; split = refl; start = start_is (verdict s seq) h; none = n }
starts_here s (block ssrc lsr dlsr) es h n = absurd (true≢false (sym h))

last_start : (es : List Happening) (s : Reception) → no_start (outcomes s es) ≡ false → LastStart s es
unfolding outcomes no_start reception_after_all
last_start [] s z = absurd (true≢false z)
last_start (e ∷ es) s z = go (is_start (outcome s e)) (no_start (outcomes (reception_after s e) es)) refl refl z (λ q. last_start es (reception_after s e) q)
  where
    go : (a b : Bool) → is_start (outcome s e) ≡ a → no_start (outcomes (reception_after s e) es) ≡ b → not a && b ≡ false → (no_start (outcomes (reception_after s e) es) ≡ false → LastStart (reception_after s e) es) → LastStart s (e ∷ es)
    go true true p q y f = starts_here s e es p q
    go false true p q y f = absurd (true≢false y)
    go a false p q y f =
        let w = f q in
        record { before = e ∷ w.before; seq = w.seq; timestamp = w.timestamp; arrival = w.arrival; since = w.since; split = ap (λ (l : List Happening). e ∷ l) w.split; start = w.start; none = w.none }

-- without a start a source stays in probation
stays : (es : List Happening) (s : Reception) → 0 < s.probation → no_start (outcomes s es) ≡ true → 0 < (reception_after_all s es).probation
unfolding outcomes no_start reception_after_all update_seq report_block
stays [] s h z = h
stays (packet seq timestamp arrival ∷ es) s h z =
    let w = and_inv (not (is_start (came (verdict s seq)))) (no_start (outcomes (update s seq timestamp arrival).0 es)) z in
    stays es (update s seq timestamp arrival).0
    (by_update s seq timestamp arrival (λ u. 0 < u.probation) (by_verdict s seq (λ v. not (is_start (came v)) ≡ true → 0 < (update_seq v s seq).probation) waiting (λ e. absurd (true≢false (sym e))) (λ p. absurd (omega arith)) (λ p. absurd (omega arith)) (λ p. absurd (omega arith)) w.0) (λ f t u k. k))
    w.1
  where
    waiting : 0 < s.probation → (n : ℕ) → 0 < n → not (is_start (came (waits n))) ≡ true → 0 < (update_seq (waits n) s seq).probation
    waiting p n k e = k
stays (block ssrc lsr dlsr ∷ es) s h z = stays es (report_block s ssrc lsr dlsr).1 kept z
  where
    kept : 0 < (report_block s ssrc lsr dlsr).1.probation
    kept = rw (lt-ltb 0 s.probation h) h

pub history : (seq : ℕ) (es : List Happening)
    → ((0 < (reception_after_all (new_reception seq) es).probation) × (no_start (outcomes (new_reception seq) es) ≡ true)) ⊎ LastStart (new_reception seq) es
unfolding new_reception
history seq es = by_test (no_start (outcomes (new_reception seq) es)) (λ e. inl (stays es (new_reception seq) two e, e)) (λ e. inr (last_start es (new_reception seq) e))
  where
    two : 0 < (new_reception seq).probation
    two = omega arith

-- ---- from a start on

counts_one : (v : Verdict) → counts v ≤ 1
counts_one (waits n) = omega arith
counts_one starts = omega arith
counts_one (ahead d) = omega arith
counts_one jumps = omega arith
counts_one behind = omega arith

accepted_most : (os : List Outcome) → accepted_in os ≤ packets_in os
unfolding accepted_in packets_in
accepted_most [] = omega arith
accepted_most (came v ∷ os) = omega (arith, counts_one v, accepted_most os)
accepted_most (asked ∷ os) = accepted_most os

regrouped : (s : Reception) (seq m x y a p q e r : ℕ) → Holds s seq (m + x + y) (a + p + q) e r → Holds s seq (m + (x + y)) (a + (p + q)) e r
regrouped s seq m x y a p q e r h =
    subst (λ (n : ℕ). Holds s seq n (a + (p + q)) e r) (add_assoc m x y) (subst (λ (n : ℕ). Holds s seq (m + x + y) n e r) (add_assoc a p q) h)

tracks : (es : List Happening) (s : Reception) (seq m a e r : ℕ) → Holds s seq m a e r → All HappeningTyped es → no_start (outcomes s es) ≡ true
    → Holds (reception_after_all s es) seq (m + moved_in (outcomes s es)) (a + accepted_in (outcomes s es)) (interval e r (outcomes s es)).0 (interval e r (outcomes s es)).1
unfolding outcomes no_start reception_after_all accepted_in moved_in interval
tracks [] s seq m a e r h t z = subst (λ (n : ℕ). Holds s seq n (a + 0) e r) (sym (add-zero m)) (subst (λ (n : ℕ). Holds s seq m n e r) (sym (add-zero a)) h)
tracks (packet n timestamp arrival ∷ es) s seq m a e r h t z =
    let w = and_inv (not (is_start (came (verdict s n)))) (no_start (outcomes (update s n timestamp arrival).0 es)) z in
    regrouped _ seq m (moves (verdict s n)) _ a (counts (verdict s n)) _ _ _
    (tracks es (update s n timestamp arrival).0 seq (m + moves (verdict s n)) (a + counts (verdict s n)) (e + moves (verdict s n)) (r + counts (verdict s n))
    (packet_holds s seq m a e r h n t.0 timestamp arrival (not-true _ w.0)) t.1 w.1)
tracks (block ssrc lsr dlsr ∷ es) s seq m a e r h t z = tracks es (report_block s ssrc lsr dlsr).1 seq m a 0 0 (report_holds s seq m a e r h ssrc lsr dlsr) t.1 z

-- for any state before the start
module _ (s : Reception) (seq timestamp arrival : ℕ) (low : seq < 65536) (start : verdict s seq ≡ starts) where
  started : Holds (update s seq timestamp arrival).0 seq 0 0 1 1
  started = by_update s seq timestamp arrival (λ u. Holds u seq 0 0 1 1) (rw start (start_holds s seq low)) (λ f t u. timed_holds f t u)

  pub figures : (es : List Happening) → All HappeningTyped es → no_start (outcomes (update s seq timestamp arrival).0 es) ≡ true
      → packets_in (outcomes (update s seq timestamp arrival).0 es) < 2147483648 → moved_in (outcomes (update s seq timestamp arrival).0 es) < 2147483648
      → (ssrc lsr dlsr : ℕ)
      → ((reception_after_all (update s seq timestamp arrival).0 es).received ≡ received_since (outcomes (update s seq timestamp arrival).0 es))
      × ((report_block (reception_after_all (update s seq timestamp arrival).0 es) ssrc lsr dlsr).0
      ≡ made (block_since seq (outcomes (update s seq timestamp arrival).0 es) ((reception_after_all (update s seq timestamp arrival).0 es).jitter / 16) ssrc lsr dlsr))
  figures es t z few near ssrc lsr dlsr =
      let os = outcomes (update s seq timestamp arrival).0 es in
      let h = tracks es (update s seq timestamp arrival).0 seq 0 0 1 1 started t z in
      let k : Holds (reception_after_all (update s seq timestamp arrival).0 es) seq (moved_in os) (accepted_in os) (interval 1 1 os).0 (interval 1 1 os).1 =
      subst (λ (n : ℕ). Holds (reception_after_all (update s seq timestamp arrival).0 es) seq n (accepted_in os) (interval 1 1 os).0 (interval 1 1 os).1) (zero-add (moved_in os))
      (subst (λ (n : ℕ). Holds (reception_after_all (update s seq timestamp arrival).0 es) seq (0 + moved_in os) n (interval 1 1 os).0 (interval 1 1 os).1) (zero-add (accepted_in os)) h) in
      exact _ seq (moved_in os) (accepted_in os) _ _ k (omega (arith, accepted_most os, few)) near ssrc lsr dlsr

-- ---- what functions returned, for any code: H is the state that is handed in, R a call with all that it returned

module _ (k : Stepper) (state : k.H → Reception) (event : k.R → Happening) (answer : k.R → Reply) where
  -- the contract of a call says what it answers, and the state that it returns
  abbrev pub Follows : Type 0
  Follows = (h : k.H) (r : k.R) → k.Meets h r → HappeningTyped (event r) × (state (k.next h r) ≡ reception_after (state h) (event r)) × (answer r ≡ reply (state h) (event r))

  -- the state that the last call returned
  abbrev pub last : List k.R → k.H → k.H
  last [] h = h
  last (r ∷ rs) h = last rs (k.next h r)

  module _ (f : Follows) where
    pub ran : (rs : List k.R) (h : k.H) → Ran k rs h
        → All HappeningTyped (map event rs) × (state (last rs h) ≡ reception_after_all (state h) (map event rs)) × (map answer rs ≡ replies (state h) (map event rs))
    unfolding reception_after_all replies
    ran [] h m = (tt, refl, refl)
    ran (r ∷ rs) h m =
        let c = f h r m.0 in
        let w = ran rs (k.next h r) m.1 in (
          (c.0, w.0),
          w.1 ∙ ap (λ (s : Reception). reception_after_all s (map event rs)) c.1,
          ap (λ (a : Reply). a ∷ map answer rs) c.2 ∙ ap (λ (l : List Reply). reply (state h) (event r) ∷ l) (w.2 ∙ ap (λ (s : Reception). replies s (map event rs)) c.1),
        )

    -- a call p starts, and the calls rs after it do not
    pub returned : (h : k.H) (p : k.R) (seq timestamp arrival : ℕ) → k.Meets h p → event p ≡ packet seq timestamp arrival → verdict (state h) seq ≡ starts
        → (rs : List k.R) → Ran k rs (k.next h p) → no_start (outcomes (state (k.next h p)) (map event rs)) ≡ true
        → packets_in (outcomes (state (k.next h p)) (map event rs)) < 2147483648 → moved_in (outcomes (state (k.next h p)) (map event rs)) < 2147483648
        → (ssrc lsr dlsr : ℕ)
        → ((state (last rs (k.next h p))).received ≡ received_since (outcomes (state (k.next h p)) (map event rs)))
        × ((report_block (state (last rs (k.next h p))) ssrc lsr dlsr).0
        ≡ made (block_since seq (outcomes (state (k.next h p)) (map event rs)) ((state (last rs (k.next h p))).jitter / 16) ssrc lsr dlsr))
    returned h p seq timestamp arrival mp ep st rs m none few near ssrc lsr dlsr =
        let c = f h p mp in
        let w = ran rs (k.next h p) m in
        let e : state (k.next h p) ≡ (update (state h) seq timestamp arrival).0 = c.1 ∙ ap (reception_after (state h)) ep in
        let low : seq < 65536 = subst HappeningTyped ep c.0 in
        let g = figures (state h) seq timestamp arrival low st (map event rs) w.0 (rw e at none) (rw e at few) (rw e at near) ssrc lsr dlsr in
        rw (w.1, e) g
