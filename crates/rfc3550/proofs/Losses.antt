-- The laws of cumulative lost by which everything else goes.
use lib.IntN.{pos, negsuc, ◌-ℤ◌}
use Rattle.rfc3550.proofs.Prelude.{ℕ, suc, ◌-◌, ◌%◌, ◌<◌, ◌≤◌, ◌≡◌, refl, Bool, true, false, not, ltb, leb-true, le-leb, lt-ltb, le-ltb, ltb-true, ltb-false, arith}
use Rattle.rfc3550.specs.Loss.{Loss, no_loss, loss_bits, loss_of, LossFits, loss_in, loss_over}
use Rattle.rfc3550.proofs.Answers.{leb_ltb}

-- ---- the number that 24 bits are read as, by their highest bit

pub loss_of_low : (n : ℕ) → n < 8388608 → loss_of n ≡ pos n
unfolding loss_of
loss_of_low n h = rw (lt-ltb n 8388608 h)

pub loss_of_high : (n : ℕ) → 8388608 ≤ n → n < 16777216 → loss_of n ≡ negsuc (16777216 - suc n)
unfolding loss_of
loss_of_high n h k = let e : pos n -ℤ pos 16777216 ≡ negsuc (16777216 - suc n) = simp (lt-ltb _ _ k) in rw (le-ltb n 8388608 h) e

-- what holds of both holds of what any 24 bits are read as
by_sign : (P : Loss → Type 0) (n : ℕ) → n < 16777216 → (n < 8388608 → P (pos n)) → (8388608 ≤ n → P (negsuc (16777216 - suc n))) → P (loss_of n)
by_sign P n h low high = go (ltb n 8388608) refl
  where
    go : (t : Bool) → ltb n 8388608 ≡ t → P (loss_of n)
    go true e = rw (loss_of_low n (ltb-true _ _ e)) (low (ltb-true _ _ e))
    go false e = rw (loss_of_high n (ltb-false _ _ e) h) (high (ltb-false _ _ e))

-- ---- the 24 bits and back

pub loss_bits_lt : (l : Loss) → loss_bits l < 16777216
unfolding loss_bits
loss_bits_lt (pos n) = omega arith
loss_bits_lt (negsuc n) = omega arith

pub loss_bits_loss_of : (n : ℕ) → n < 16777216 → loss_bits (loss_of n) ≡ n
unfolding loss_bits
loss_bits_loss_of n h = by_sign (λ l. loss_bits l ≡ n) n h (λ k. omega arith) (λ k. omega arith)

pub loss_of_loss_bits : (l : Loss) → LossFits l → loss_of (loss_bits l) ≡ l
unfolding loss_bits
loss_of_loss_bits (pos n) h = let e : n % 16777216 ≡ n = omega arith in rw e (loss_of_low n (omega arith))
loss_of_loss_bits (negsuc n) h =
    let e : n % 16777216 ≡ n = omega arith in
    let k : 16777216 - suc (16777216 - suc n) ≡ n = omega arith in
    rw (e, loss_of_high (16777216 - suc n) (omega arith) (omega arith), k)

pub loss_of_fits : (n : ℕ) → n < 16777216 → LossFits (loss_of n)
loss_of_fits n h = by_sign LossFits n h (λ k. omega arith) (λ k. omega arith)

-- ---- the test

pub no_loss_fits : LossFits no_loss
no_loss_fits = omega arith

pub loss_in_fits : (l : Loss) → loss_in l ≡ true → LossFits l
unfolding loss_in
loss_in_fits (pos n) e = leb-true _ _ e
loss_in_fits (negsuc n) e = leb-true _ _ e

pub fits_loss_in : (l : Loss) → LossFits l → loss_in l ≡ true
unfolding loss_in
fits_loss_in (pos n) h = le-leb _ _ h
fits_loss_in (negsuc n) h = le-leb _ _ h

pub loss_in_loss_over : (l : Loss) → loss_in l ≡ not (loss_over l)
unfolding loss_in loss_over
loss_in_loss_over (pos n) = leb_ltb n 8388607
loss_in_loss_over (negsuc n) = leb_ltb (suc n) 8388608
