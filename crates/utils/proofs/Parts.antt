-- Parts of a list, fields of a part, and elements by index.
use Rattle.rfc3550.proofs.Prelude.{◌≡◌, refl, ap, ◌∙◌, sym, Bool, true, false, List, [], ◌∷◌, ◌⊎◌, inl, inr, ℕ, zero, suc, ◌+◌, ◌-◌, ◌*◌, ◌<◌, ◌≤◌, sub-zero, zero-sub, suc-sub-suc, mul-suc, mul-zero, arith, rules, ltb-true, ltb-false, ltb, length, take, drop, replicate, length-drop, take-nil, take_all, take-take, drop-drop, length-take-le}
use Rattle.rfc3550.specs.Answer.{ok, refuse}
use Rattle.rfc3550.specs.Bytes.{val, get, sum}
use Rattle.rfc3550.specs.Packet.{block_widths}
use Rattle.rfc3550.specs.Read.{nth, block_from, read_blocks}

-- ---- drop of take

pub drop_take : {A : Type 0} (at b : ℕ) (s : List A) → drop at (take b s) ≡ take (b - at) (drop at s)
drop_take zero b s = rw (sub-zero b)
drop_take (suc at) zero s = rw (zero-sub (suc at))
drop_take (suc at) (suc b) [] = sym (take-nil (suc b - suc at))
drop_take (suc at) (suc b) (x ∷ s) = rw (suc-sub-suc b at) (drop_take at b s)

pub take_drop_take : {A : Type 0} (w at b : ℕ) (s : List A) → at + w ≤ b → take w (drop at (take b s)) ≡ take w (drop at s)
take_drop_take w at b s h = let l : w ≤ b - at = omega arith in rw (drop_take at b s, take-take w (b - at) (drop at s) l)

pub length_drop_take : {A : Type 0} (at b : ℕ) (s : List A) → b ≤ length s → length (drop at (take b s)) ≡ b - at
length_drop_take at b s h = rw (length-drop, length-take-le b s h)

-- fields within the first b bytes
pub get_take : (ws : List ℕ) (at b : ℕ) (s : List ℕ) → at + sum ws ≤ b → get ws (drop at (take b s)) ≡ get ws (drop at s)
unfolding get sum
get_take [] at b s h = refl
get_take (w ∷ ws) at b s h =
    rw (take_drop_take w at b s (omega arith), drop-drop w at (take b s), drop-drop w at s, get_take ws (at + w) b s (omega arith))

-- ---- the part from a place on, of a length

pub part_past : {A : Type 0} (at n : ℕ) (s : List A) → length s ≤ at → take 0 s ≡ take n (drop at s)
part_past zero n [] h = sym (take-nil n)
part_past zero n (x ∷ s) h = absurd (omega arith)
part_past (suc at) n [] h = sym (take-nil n)
part_past (suc at) n (x ∷ s) h = part_past at n s (omega arith)

pub part_cut : {A : Type 0} (at n : ℕ) (s : List A) → length s - at ≤ n → take (length s - at) (drop at s) ≡ take n (drop at s)
part_cut at n s h =
    take_all (length s - at) (drop at s) (rw (length-drop) (omega arith)) ∙ sym (take_all n (drop at s) (rw (length-drop) h))

pub part_within : {A : Type 0} (at n : ℕ) (s : List A) → take (at + n - at) (drop at s) ≡ take n (drop at s)
part_within at n s = let e : at + n - at ≡ n = omega arith in rw e

-- all of a list, lent again from its start
pub lent_again : {A : Type 0} (s : List A) → take (length s - 0) (drop 0 s) ≡ s
lent_again s = take_all (length s - 0) s (omega arith)

-- the second place comes first
pub part_none : {A : Type 0} (from to : ℕ) (s r : List A) → to < from → r ≡ take 0 (drop from s) → r ≡ take (to - from) (drop from s)
part_none from to s r h e = let z : to - from ≡ 0 = omega arith in rw z e

pub ruleset cuts = (rules, part_past, part_cut, part_within, part_none)

-- ---- nth

pub nth_past : {A : Type 0} (i : ℕ) (xs : List A) → length xs ≤ i → nth i xs ≡ refuse 25 0 0
nth_past i [] h = refl
nth_past zero (x ∷ xs) h = absurd (omega arith)
nth_past (suc i) (x ∷ xs) h = nth_past i xs (omega arith)

pub nth_get : (w n i : ℕ) (s : List ℕ) → i < n → nth i (get (replicate n w) s) ≡ ok (val (take w (drop (w * i) s)))
unfolding get
nth_get w zero i s h = absurd (omega arith)
nth_get w (suc n) zero s h = rw (mul-zero w)
nth_get w (suc n) (suc i) s h =
    let e : w + w * i ≡ w * suc i = omega (arith, mul-suc w i) in
    nth_get w n i (drop w s) (omega arith) ∙ rw (drop-drop (w * i) w s, e)

pub nth_read_blocks : (n i : ℕ) (s : List ℕ) → i < n → nth i (read_blocks n s) ≡ ok (block_from (get block_widths (drop (24 * i) s)))
unfolding read_blocks
nth_read_blocks zero i s h = absurd (omega arith)
nth_read_blocks (suc n) zero s h = refl
nth_read_blocks (suc n) (suc i) s h =
    let e : 24 + 24 * i ≡ 24 * suc i = omega arith in
    nth_read_blocks n i (drop 24 s) (omega arith) ∙ rw (drop-drop (24 * i) 24 s, e)

pub length_read_blocks : (n : ℕ) (s : List ℕ) → length (read_blocks n s) ≡ n
unfolding read_blocks
length_read_blocks zero s = refl
length_read_blocks (suc n) s = ap suc (length_read_blocks n (drop 24 s))

-- ---- two numbers, one way or the other

pub split : (a b : ℕ) → (a < b) ⊎ (b ≤ a)
split a b = go (ltb a b) refl
  where
    go : (t : Bool) → ltb a b ≡ t → (a < b) ⊎ (b ≤ a)
    go true e = inl (ltb-true a b e)
    go false e = inr (ltb-false a b e)
