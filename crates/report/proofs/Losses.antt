-- A signed loss as code has it: a local holds its bits, which are read back as `to_z w32 (of_z w32 z)`, also where they are passed to a call.
use lib.Dec.{leb-suc-suc}
use lib.IntN.{ℤ, pos, negsuc, ◌-ℤ◌, nat_abs}
use lib.Signed.{mag, lt_z, non_neg}
use lib.Bits.{bit_and, and_mask}
use mir.Syntax.{w32}
use mir.Val.{to_z, of_z, Fits, SFits}
use mir.ValLaws.{to_z_pos, to_z-of_z}
use Rattle.rfc3550.proofs.Prelude.{rules, ℕ, zero, suc, ◌+◌, ◌-◌, ◌%◌, ◌<◌, ◌^◌, ◌≡◌, refl, sym, ap, ◌∙◌, subst, Bool, true, false, T, leb, ltb, lt-ltb, le-ltb, ltb-true, ltb-false, arith}
use Rattle.rfc3550.specs.Loss.{loss_bits, loss_of, loss_in, loss_shown}
use Rattle.rfc3550.proofs.Losses.{loss_bits_lt, loss_of_low, loss_of_high}

-- the loss that its bits are
pub bits_back : (z : ℤ) → mag z < 2147483648 → to_z w32 (of_z w32 z) ≡ z
bits_back z h = to_z-of_z w32 z (record { sfits = h })

-- ---- a number from 0 on, as bits

module _ (x : ℤ) (m : ℕ) (e : x ≡ pos m) (h : m < 2147483648) where
  from_bits : to_z w32 (of_z w32 x) ≡ pos m
  from_bits = to_z-of_z w32 x (rw e (record { sfits = h })) ∙ e

  pub bits_sign : T (non_neg (to_z w32 (of_z w32 x)))
  bits_sign = rw from_bits tt

  pub bits_fit : Fits w32 (nat_abs (to_z w32 (of_z w32 x)))
  bits_fit = rw from_bits (record { fits = omega arith })

  pub bits_below : nat_abs (to_z w32 (of_z w32 x)) < 2147483648
  bits_below = rw from_bits h

  pub bits_are : nat_abs (to_z w32 (of_z w32 x)) ≡ m
  bits_are = rw from_bits

-- 24 bits less such a number
less_fits : (m k : ℕ) → m < 2147483648 → k < 2147483648 → SFits w32 (pos m -ℤ pos k)
less_fits m zero h g = record { sfits = omega arith }
less_fits m (suc j) h g = go (ltb m (suc j)) refl
  where
    go : (t : Bool) → ltb m (suc j) ≡ t → SFits w32 (pos m -ℤ pos (suc j))
    go true e = rw e (record { sfits = omega arith })
    go false e = rw e (record { sfits = omega arith })

pub difference_fits : (x k : ℕ) → k < 2147483648 → SFits w32 (to_z w32 (x % 16777216) -ℤ to_z w32 k)
difference_fits x k h = rw (to_z_pos w32 (x % 16777216) (omega arith), to_z_pos w32 k h) (less_fits (x % 16777216) k (omega arith) h)

-- ---- the magnitude

below_turned : (z : ℤ) → lt_z z (pos 0) ≡ true → negsuc 0 -ℤ z ≡ pos (mag z)
below_turned (pos n) h = let k : n < 0 = ltb-true n 0 h in absurd (omega arith)
below_turned (negsuc n) h =
    let e : suc n - 1 ≡ n = omega arith in
    simp (le-ltb (suc n) 1 (omega arith)) (ap pos e)

above_same : (z : ℤ) → lt_z z (pos 0) ≡ false → z ≡ pos (mag z)
above_same (pos n) h = refl
above_same (negsuc n) h = absurd (subst T h tt)

module _ (z : ℤ) (f : SFits w32 z) where
  here : to_z w32 (of_z w32 z) ≡ z
  here = to_z-of_z w32 z f

  module _ (h : lt_z (to_z w32 (of_z w32 z)) (pos 0) ≡ true) where
    pub turned : negsuc 0 -ℤ to_z w32 (of_z w32 z) ≡ pos (mag z)
    turned = ap (λ (x : ℤ). negsuc 0 -ℤ x) here ∙ below_turned z (subst (λ (x : ℤ). lt_z x (pos 0) ≡ true) here h)

    pub turned_fits : SFits w32 (negsuc 0 -ℤ to_z w32 (of_z w32 z))
    turned_fits = rw turned (record { sfits = f.sfits })

  pub same : lt_z (to_z w32 (of_z w32 z)) (pos 0) ≡ false → z ≡ pos (mag z)
  same h = above_same z (subst (λ (x : ℤ). lt_z x (pos 0) ≡ false) here h)

  pub magnitude_fits : mag z < 2147483648
  magnitude_fits = f.sfits

-- ---- the test

pub by_magnitude : (z : ℤ) → leb (mag z) 8388607 ≡ loss_in z
unfolding loss_in
by_magnitude (pos n) = refl
by_magnitude (negsuc n) = sym (leb-suc-suc n 8388607)

pub magnitude_tested : (z : ℤ) (m : ℕ) → SFits w32 z → m ≡ mag (to_z w32 (of_z w32 z)) → leb m 8388607 ≡ loss_in z
magnitude_tested z m f e = rw (e, to_z-of_z w32 z f) (by_magnitude z)

-- ---- the 24 bits

masked : (z : ℤ) → SFits w32 z → of_z w32 z % 2 ^ 24 ≡ loss_bits z
unfolding loss_bits
masked (pos n) f = refl
masked (negsuc n) f = let k : n < 2147483648 = f.sfits in omega arith

module _ (z : ℤ) (f : SFits w32 z) where
  masked_bits : bit_and (of_z w32 z) 16777215 ≡ loss_bits z
  masked_bits = and_mask (of_z w32 z) 24 ∙ masked z f

  masked_from : to_z w32 (bit_and (of_z w32 z) 16777215) ≡ pos (loss_bits z)
  masked_from = let k = loss_bits_lt z in ap (to_z w32) masked_bits ∙ to_z_pos w32 (loss_bits z) (omega arith)

  pub masked_sign : T (non_neg (to_z w32 (bit_and (of_z w32 z) 16777215)))
  masked_sign = rw masked_from tt

  pub masked_fits : Fits w32 (nat_abs (to_z w32 (bit_and (of_z w32 z) 16777215)))
  masked_fits = let k = loss_bits_lt z in rw masked_from (record { fits = omega arith })

  pub masked_is : nat_abs (to_z w32 (bit_and (of_z w32 z) 16777215)) ≡ loss_bits z
  masked_is = rw masked_from

-- ---- the number that the low 24 bits of a word are read as

module _ (word : ℕ) where
  abbrev n : ℕ
  n = word % 16777216

  h : n < 16777216
  h = omega arith

  abbrev raised : ℕ
  raised = (n + 8388608) % 16777216

  lowered : to_z w32 raised -ℤ pos 8388608 ≡ loss_of n
  lowered = ap (λ (x : ℤ). x -ℤ pos 8388608) (to_z_pos w32 raised (omega arith)) ∙ go (ltb n 8388608) refl
    where
      go : (t : Bool) → ltb n 8388608 ≡ t → pos raised -ℤ pos 8388608 ≡ loss_of n
      go true e =
          let k = ltb-true n 8388608 e in
          let m : raised - 8388608 ≡ n = omega arith in
          simp (le-ltb raised 8388608 (omega arith)) (ap pos m) ∙ sym (loss_of_low n k)
      go false e =
          let k = ltb-false n 8388608 e in
          let m : 8388608 - suc raised ≡ 16777216 - suc n = omega arith in
          simp (lt-ltb raised 8388608 (omega arith)) (ap negsuc m) ∙ sym (loss_of_high n k h)

  pub raised_fits : SFits w32 (pos raised)
  raised_fits = record { sfits = omega arith }

  pub read_is : to_z w32 (of_z w32 (to_z w32 raised -ℤ pos 8388608)) ≡ loss_of n
  read_is = to_z-of_z w32 _ (difference_fits (n + 8388608) 8388608 (omega arith)) ∙ lowered

-- ---- the low 32 bits

pub shown_cast : (z : ℤ) → SFits w32 z → of_z w32 z ≡ loss_shown z
unfolding loss_shown
shown_cast (pos n) f = let k : n < 2147483648 = f.sfits in omega arith
shown_cast (negsuc n) f = let k : n < 2147483648 = f.sfits in omega arith

pub ruleset losses = (rules, bits_sign, bits_fit, bits_below, bits_are, turned, turned_fits, same, magnitude_fits, magnitude_tested, masked_sign, masked_fits, masked_is, loss_bits_lt, raised_fits, difference_fits, read_is, shown_cast)
