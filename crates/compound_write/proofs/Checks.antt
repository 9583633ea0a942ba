-- The test of a packet's type and size: each case from what the code has tested, and what it says of a packet given.
use Rattle.std.specs.Prelude.{Result, Ok, Err}
use Rattle.std.specs.Result.{IsErrAnd}
use Rattle.std.proofs.lemmas.Result.{err_from_is_err_and}
use Rattle.rfc3550.proofs.Prelude.{ℕ, ◌+◌, ◌-◌, ◌^◌, ◌<◌, ◌≤◌, ◌≡◌, refl, sym, ap, ◌∙◌, Bool, true, false, ◌&&◌, ◌||◌, not, arith, le-leb, lt-leb, leb-true, leb-false, lt-ltb, le-ltb, ne_eqb, not-true, not-false, leb, ltb, eqb}
use Rattle.rfc3550.specs.Answer.{Refusal, refusal, Answer, ok, refused, refuse, need, ◌>>◌, ◌>>=◌, capped, pick, map_ok}
use Rattle.rfc3550.specs.Packet.{type, is_report}
use Rattle.rfc3550.specs.Write.{Given, content_given, size_given, tests, calculate_size}
use Rattle.rfc3550.specs.Writer.{Writer, add_tests}
use Rattle.utils.specs.Writer.{written_of}
use Rattle.utils.specs.declared.error.RtcpWriteError.{RtcpWriteError}
use Rattle.compound_write.specs.Writer.{admits, why_not, admitted, size_added}

module _ (w : Writer) (t : ℕ) (o : Result ℕ RtcpWriteError) (n : ℕ) where
  pub checked_closed : w.closed ≡ true → refuse 26 0 0 ≡ admitted w t (written_of o) n
  unfolding admitted need ◌>>◌
  checked_closed e = simp e

  module _ (still : w.closed ≡ false) where
    pub checked_padded : w.padded ≡ true → refuse 29 0 0 ≡ admitted w t (written_of o) n
    unfolding admitted need ◌>>◌
    checked_padded e = simp (still, e)

    module _ (unpadded : w.padded ≡ false) (s : Bool) (is : s ≡ (ltb 0 w.len || is_report t)) where
      pub checked_first : s ≡ false → refuse 27 0 0 ≡ admitted w t (written_of o) n
      unfolding admitted need ◌>>◌
      checked_first e = simp (still, unpadded, ← is, e)

      module _ (starts : s ≡ true) where
        -- what its own order refuses, handed on by `?`
        pub checked_own : (r : Result ℕ RtcpWriteError) (e : RtcpWriteError) → o ≡ Err e → IsErrAnd r (λ (x : RtcpWriteError). x ≡ e) → written_of r ≡ admitted w t (written_of o) n
        unfolding admitted need ◌>>◌ ◌>>=◌
        checked_own r e h q = let p = err_from_is_err_and r q in rw (h, p.1, p.2) (simp (still, unpadded, ← is, starts))

        module _ (k : ℕ) (sized : o ≡ Ok k) where
          pub checked_short : n < w.len → w.len < 2 ^ 64 → refuse 10 w.len 0 ≡ admitted w t (written_of o) n
          unfolding admitted need ◌>>◌ ◌>>=◌
          checked_short h f = let c : capped w.len ≡ w.len = omega arith in rw sized (simp (still, unpadded, ← is, starts, lt-leb _ _ h, c))

          module _ (h : w.len ≤ n) where
            pub checked_over : n - w.len < k → (sum : ℕ) → sum ≡ capped (w.len + k) → refuse 10 sum 0 ≡ admitted w t (written_of o) n
            unfolding admitted need ◌>>◌ ◌>>=◌
            checked_over f sum e = let g : n < w.len + k = omega arith in rw (sized, e) (simp (still, unpadded, ← is, starts, le-leb _ _ h, lt-leb _ _ g))

            pub checked_fits : k ≤ n - w.len → ok k ≡ admitted w t (written_of o) n
            unfolding admitted need ◌>>◌ ◌>>=◌
            checked_fits f = let g : w.len + k ≤ n = omega arith in rw sized (simp (still, unpadded, ← is, starts, le-leb _ _ h, le-leb _ _ g))

pub ruleset checks = (not-true, not-false, checked_closed, checked_padded, checked_first, checked_own, checked_short, checked_over, checked_fits)

-- ---- a packet whose own order gives a size is let through where `admits` holds, and else refused as `why_not` says

fits : (len n k : ℕ) (own : Refusal) → 0 < k
    → (need (leb len n) 10 (capped len) 0 >> (need (leb (len + k) n) 10 (capped (len + k)) 0 >> ok k))
    ≡ pick (ltb 0 k && leb (len + k) n) (ok k) (refused (pick (eqb k 0) own (pick (ltb n len) (refusal 10 (capped len) 0) (refusal 10 (capped (len + k)) 0))))
unfolding need ◌>>◌
fits len n k own h = rw (lt-ltb 0 k h, ne_eqb k 0 (λ e. omega arith)) (go (leb len n) refl (leb (len + k) n) refl)
  where
    go : (a : Bool) → leb len n ≡ a → (b : Bool) → leb (len + k) n ≡ b
        → (need (leb len n) 10 (capped len) 0 >> (need (leb (len + k) n) 10 (capped (len + k)) 0 >> ok k))
        ≡ pick (leb (len + k) n) (ok k) (refused (pick (ltb n len) (refusal 10 (capped len) 0) (refusal 10 (capped (len + k)) 0)))
    go true e true f = rw (e, f)
    go true e false f = rw (e, f, le-ltb n len (leb-true _ _ e))
    go false e b f = let l : n < len = leb-false _ _ e in rw (e, lt-leb (len + k) n (omega arith), lt-ltb n len l)

module _ (w : Writer) (t n : ℕ) (own : Refusal) where
  pub checked_sized : (k : ℕ) → 0 < k → admitted w t (ok k) n ≡ pick (admits w t k n) (ok k) (refused (why_not w t k own n))
  unfolding admitted need ◌>>◌ ◌>>=◌
  checked_sized k h = go w.closed w.padded (ltb 0 w.len || is_report t)
    where
      go : (c p s : Bool)
          → (need (not c) 26 0 0 >> (need (not p) 29 0 0 >> (need s 27 0 0 >> (ok k >>= λ (k : ℕ). need (leb w.len n) 10 (capped w.len) 0 >> (need (leb (w.len + k) n) 10 (capped (w.len + k)) 0 >> ok k)))))
          ≡ pick (not c && (not p && (s && (ltb 0 k && leb (w.len + k) n)))) (ok k)
          (refused (pick c (refusal 26 0 0) (pick p (refusal 29 0 0) (pick (not s) (refusal 27 0 0) (pick (eqb k 0) own (pick (ltb n w.len) (refusal 10 (capped w.len) 0) (refusal 10 (capped (w.len + k)) 0)))))))
      go true p s = refl
      go false true s = refl
      go false false false = refl
      go false false true = fits w.len n k own h

  -- and one that its own order refuses, whose size is 0, never, and as `why_not` says
  pub checked_unsized : (admits w t 0 n ≡ false) × (admitted w t (refused own) n ≡ refused (why_not w t 0 own n))
  unfolding admitted need ◌>>◌ ◌>>=◌
  checked_unsized = go w.closed w.padded (ltb 0 w.len || is_report t)
    where
      go : (c p s : Bool)
          → (not c && (not p && (s && (ltb 0 0 && leb (w.len + 0) n))) ≡ false)
          × ((need (not c) 26 0 0 >> (need (not p) 29 0 0 >> (need s 27 0 0 >> (refused own >>= λ (k : ℕ). need (leb w.len n) 10 (capped w.len) 0 >> (need (leb (w.len + k) n) 10 (capped (w.len + k)) 0 >> ok k)))))
          ≡ refused (pick c (refusal 26 0 0) (pick p (refusal 29 0 0) (pick (not s) (refusal 27 0 0) own))))
      go true p s = (refl, refl)
      go false true s = (refl, refl)
      go false false false = (refl, refl)
      go false false true = (refl, refl)

-- ---- a packet given: what an add lays down is what is let through

pub added_admitted : (w : Writer) (g : Given) (n : ℕ) → size_added w g n ≡ admitted w (type (content_given g)) (calculate_size g) n
unfolding add_tests calculate_size admitted map_ok need ◌>>◌ ◌>>=◌
added_admitted w g n = go w.closed w.padded (ltb 0 w.len || is_report (type (content_given g))) (tests g)
  where
    k : ℕ
    k = size_given g

    room : (a b : Bool) → map_ok (λ (u : Unit {0}). k) (need a 10 (capped w.len) 0 >> need b 10 (capped (w.len + k)) 0) ≡ (need a 10 (capped w.len) 0 >> (need b 10 (capped (w.len + k)) 0 >> ok k))
    room true true = refl
    room true false = refl
    room false b = refl

    go : (c p s : Bool) (m : Answer (Unit {0}))
        → map_ok (λ (u : Unit {0}). k) (need (not c) 26 0 0 >> (need (not p) 29 0 0 >> (need s 27 0 0 >> (m >> (need (leb w.len n) 10 (capped w.len) 0 >> need (leb (w.len + k) n) 10 (capped (w.len + k)) 0)))))
        ≡ (need (not c) 26 0 0 >> (need (not p) 29 0 0 >> (need s 27 0 0 >> ((m >> ok k) >>= λ (k : ℕ). need (leb w.len n) 10 (capped w.len) 0 >> (need (leb (w.len + k) n) 10 (capped (w.len + k)) 0 >> ok k)))))
    go true p s m = refl
    go false true s m = refl
    go false false false m = refl
    go false false true (refused r) = refl
    go false false true (ok u) = room (leb w.len n) (leb (w.len + k) n)
