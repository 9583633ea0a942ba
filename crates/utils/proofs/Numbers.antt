-- Numbers of several bytes, over their widths.
use Rattle.rfc3550.proofs.Prelude.{◌≡◌, refl, ◌∙◌, List, [], ◌∷◌, ◌++◌, ℕ, zero, suc, ◌+◌, ◌-◌, ◌*◌, ◌^◌, ◌≤◌, mul_assoc, add-mul, arith, length, take, drop, get_or, length-append, length-drop, pow-add, take-add, drop-drop, length-take-le}
use Rattle.std.specs.Int.{byte_worth, sum_through}
use Rattle.rfc3550.specs.Bytes.{val}

pub val_append : (a b : List ℕ) → val (a ++ b) ≡ val a * 256 ^ length b + val b
unfolding val
val_append [] b = omega arith
val_append (x ∷ a) b =
    let p : 256 ^ length (a ++ b) ≡ 256 ^ length a * 256 ^ length b = rw (length-append a b) (pow-add 256 (length a) (length b)) in
    let g : x * 256 ^ length (a ++ b) + val (a ++ b) ≡ (x * 256 ^ length a + val a) * 256 ^ length b + val b =
    rw (p, val_append a b) (omega (arith, mul_assoc x (256 ^ length a) (256 ^ length b), add-mul (x * 256 ^ length a) (val a) (256 ^ length b))) in
    g

-- the library's `from_be_bytes` makes the same number
sum_first : (f : ℕ → ℕ) (k : ℕ) → sum_through f (suc k) ≡ f 0 + sum_through (λ i. f (suc i)) k
sum_first f zero = refl
sum_first f (suc k) = rw (sum_first f k) (omega arith)

sum_same : (f g : ℕ → ℕ) → ((i : ℕ) → f i ≡ g i) → (k : ℕ) → sum_through f k ≡ sum_through g k
sum_same f g e zero = e 0
sum_same f g e (suc k) = rw (sum_same f g e k, e (suc k))

abbrev number_of : ℕ → List ℕ → ℕ
number_of k bs = sum_through (λ i. byte_worth (k - i) (get_or bs i 0)) k

number_is : (k : ℕ) (bs : List ℕ) → length bs ≡ suc k → number_of k bs ≡ val bs
unfolding val
number_is k [] h = absurd (omega arith)
number_is zero (b ∷ []) h = omega arith
number_is zero (b ∷ x ∷ bs) h = absurd (omega arith)
number_is (suc k) (b ∷ bs) h =
    let l : length bs ≡ suc k = omega arith in
    let f : ℕ → ℕ = λ i. byte_worth (suc k - i) (get_or (b ∷ bs) i 0) in
    let z : f 0 ≡ b * 256 ^ suc k = let y : suc k - 0 ≡ suc k = omega arith in rw y in
    let r : sum_through (λ i. f (suc i)) k ≡ val bs = sum_same (λ i. f (suc i)) (λ i. byte_worth (k - i) (get_or bs i 0)) (λ i. let y : suc k - suc i ≡ k - i = omega arith in rw y) k ∙ number_is k bs l in
    sum_first f k ∙ rw (z, r, l)

pub number_read : (k n at : ℕ) (s bs : List ℕ) → n ≡ number_of k bs → bs ≡ take (suc k) (drop at s) → at + suc k ≤ length s → n ≡ val (take (suc k) (drop at s))
number_read k n at s bs e q h = e ∙ rw q (number_is k (take (suc k) (drop at s)) (length-take-le (suc k) (drop at s) (rw length-drop (omega arith))))

-- the number of m + n bytes is made of the first m and the other n
pub val_join : (m n : ℕ) (s : List ℕ) (at k high low : ℕ) → at + k ≤ length s → m + n ≤ k → high ≡ val (take m (drop at s)) → low ≡ val (take n (drop (at + m) s))
    → high * 256 ^ n + low ≡ val (take (m + n) (drop at s))
val_join m n s at k high low h r p q =
    let l : length (take n (drop (at + m) s)) ≡ n = length-take-le n (drop (at + m) s) (rw length-drop (omega arith)) in
    rw (take-add m n (drop at s), drop-drop m at s, val_append (take m (drop at s)) (take n (drop (at + m) s)), l, p, q)
