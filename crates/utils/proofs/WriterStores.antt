-- Laws of `store`: a chain of stores is one store, and what straight-line code and loops leave is a store.
use Rattle.rfc3550.proofs.Prelude.{ℕ, zero, suc, ◌+◌, ◌-◌, ◌*◌, ◌/◌, ◌%◌, ◌^◌, ◌<◌, ◌≤◌, ◌≡◌, refl, sym, ap, ◌∙◌, List, [], ◌∷◌, ◌++◌, append_assoc, append-nil, add_assoc, add-zero, add-suc, pow-suc, zero-add, one-le-pow, mod-lt, mod-eq_of_lt, mul_comm, div-one, add-one, arith, length, take, drop, set, get_or, length-append, length-drop, take-append-drop, drop_of_length-le, sets, sets-eq, length-take-le, take_at, drop_at, drop-drop, drop-append-add, set_at, drop-cons, take_all, take-append-le, take-take, digits_div, digits_mod, mod-mul}
use Rattle.std.specs.Int.{byte_at, bytes_high_first}
use Rattle.rfc3550.specs.Bytes.{be, store}
use Rattle.rfc3550.proofs.Bytes.{length_store}

-- ---- store

pub store_nil : (at : ℕ) (l : List ℕ) → store at [] l ≡ l
unfolding store
store_nil at l = rw add-zero (take-append-drop at l)

-- a second store that starts where the first ended
pub store_store : (at k : ℕ) (a b l : List ℕ) → at + length a ≡ k → k + length b ≤ length l → store k b (store at a l) ≡ store at (a ++ b) l
unfolding store
store_store at k a b l e h =
    let f : length (take at l ++ a) ≡ k = simp (length-append, length-take-le at l (omega arith)) e in
    let t : take k (store at a l) ≡ take at l ++ a = rw (← append_assoc) (take_at (take at l ++ a) (drop (at + length a) l) k f) in
    let d : drop (k + length b) (store at a l) ≡ drop (k + length b) l =
    let g : at + length a + length b ≡ length (take at l ++ a) + length b = omega (arith, f) in
    rw (← append_assoc, ← f, drop-append-add, drop-drop, g) in
    rw (t, d) (simp (append_assoc, length-append, ← add_assoc, e))

-- a store right before one that was made
pub store_before : (at k : ℕ) (a b l : List ℕ) → at + length a ≡ k → k + length b ≤ length l → store at a (store k b l) ≡ store k b (store at a l)
unfolding store
store_before at k a b l e h =
    let m = length-take-le k l (omega arith) in
    let t : take at (store k b l) ≡ take at l = take-append-le at (take k l) (b ++ drop (k + length b) l) (omega arith) ∙ take-take at k l (omega arith) in
    let d : drop (at + length a) (store k b l) ≡ b ++ drop (k + length b) l = rw e (drop_at (take k l) (b ++ drop (k + length b) l) k m) in
    rw (t, d) (sym (store_store at k a b l e h ∙ simp (append_assoc, length-append, ← add_assoc, e)))

-- a second store at the same place, at least as long as the first
pub store_over : (at : ℕ) (a b l : List ℕ) → length a ≤ length b → at + length b ≤ length l → store at b (store at a l) ≡ store at b l
unfolding store
store_over at a b l s h =
    let t : take at (store at a l) ≡ take at l = take_at (take at l) (a ++ drop (at + length a) l) at (length-take-le at l (omega arith)) in
    let f : length (take at l ++ a) ≡ at + length a = simp (length-append, length-take-le at l (omega arith)) in
    let d : drop (at + length b) (store at a l) ≡ drop (at + length b) l =
    let g : at + length b ≡ length (take at l ++ a) + (length b - length a) = omega (arith, f) in
    let k : at + length a + (length b - length a) ≡ at + length b = omega arith in
    rw (← append_assoc, g, drop-append-add, drop-drop, f, k) in
    rw (t, d)

-- lists laid end to end, and stored one after the other, the first k bytes after at
abbrev pub concat : List (List ℕ) → List ℕ
concat [] = []
concat (b ∷ bs) = b ++ concat bs

abbrev pub chain : ℕ → ℕ → List (List ℕ) → List ℕ → List ℕ
chain at k [] l = l
chain at k (b ∷ bs) l = chain at (k + length b) bs (store (at + k) b l)

chain_eq : (at k : ℕ) (bs : List (List ℕ)) (l : List ℕ) → at + k + length (concat bs) ≤ length l → chain at k bs l ≡ store (at + k) (concat bs) l
chain_eq at k [] l h = sym (store_nil (at + k) l)
chain_eq at k (b ∷ bs) l h =
    let s : length (b ++ concat bs) ≡ length b + length (concat bs) = length-append b (concat bs) in
    let n = length_store (at + k) b l (omega arith) in
    chain_eq at (k + length b) bs (store (at + k) b l) (omega arith)
    ∙ rw (← add_assoc at k (length b)) (store_store (at + k) (at + k + length b) b (concat bs) l refl (omega arith))

-- a chain of stores is one store
pub stores : (at : ℕ) (b : List ℕ) (bs : List (List ℕ)) (l : List ℕ) → at + length (concat (b ∷ bs)) ≤ length l → chain at (length b) bs (store at b l) ≡ store at (concat (b ∷ bs)) l
stores at b bs l h =
    let s : length (b ++ concat bs) ≡ length b + length (concat bs) = length-append b (concat bs) in
    let n = length_store at b l (omega arith) in
    chain_eq at (length b) bs (store at b l) (omega arith) ∙ store_store at (at + length b) b (concat bs) l refl (omega arith)

-- what straight-line stores leave
pub store_sets : (at : ℕ) (bs l : List ℕ) → at + length bs ≤ length l → sets l at bs ≡ store at bs l
unfolding store
store_sets at bs l h = sets-eq bs l at h ∙ append_assoc (take at l) bs (drop (at + length bs) l)

-- one byte more behind: a turn of a loop that counts up
pub store_snoc : (at k b : ℕ) (bs l : List ℕ) → length bs ≡ k → at + k < length l → set (store at bs l) (at + k) b ≡ store at (bs ++ (b ∷ [])) l
unfolding store
store_snoc at k b bs l e h =
    let f : length (take at l ++ bs) ≡ at + k = simp (length-append, length-take-le at l (omega arith)) (omega arith) in
    rw (← append_assoc (take at l) bs (drop (at + length bs) l), e, drop-cons l (at + k) 0 h, set_at (take at l ++ bs) (get_or l (at + k) 0) (drop (suc (at + k)) l) b (at + k) f)
    (simp (append_assoc, length-append, e, add-one, add-suc))

-- a part from index at on, with bs stored at its start, put back
pub store_part : (at : ℕ) (bs l : List ℕ) → at + length bs ≤ length l →
    take at l ++ (store 0 bs (take (length l - at) (drop at l)) ++ drop (length l - at) (drop at l)) ≡ store at bs l
unfolding store
store_part at bs l h =
    let a : take (length l - at) (drop at l) ≡ drop at l = take_all (length l - at) (drop at l) (rw length-drop (omega arith)) in
    let b : drop (length l - at) (drop at l) ≡ [] = drop_of_length-le (drop at l) {i = length l - at} (rw length-drop (omega arith)) in
    rw (a, b) (simp (append-nil, drop-drop, zero-add))

-- ---- numbers

pow_pos : (w : ℕ) → 0 < 256 ^ w
pow_pos w = one-le-pow w 256 (omega arith)

byte_is : (w v : ℕ) → v / 256 ^ w % 256 ≡ byte_at w v
byte_is zero v = rw div-one
byte_is (suc w) v = refl

be_mod : (w v : ℕ) → be w (v % 256 ^ w) ≡ bytes_high_first w v
unfolding be
be_mod zero v = refl
be_mod (suc w) v =
    let e : v % 256 ^ suc w ≡ (v / 256 ^ w % 256) * 256 ^ w + v % 256 ^ w = rw (pow-suc 256 w, mul_comm (256 ^ w) 256) (mod-mul v {m = 256} {c = 256 ^ w} (omega arith) (pow_pos w)) in
    rw (e, digits_div (v / 256 ^ w % 256) (mod-lt v (pow_pos w)), digits_mod (v / 256 ^ w % 256) (mod-lt v (pow_pos w)), be_mod w v, byte_is w v)

-- the library's `to_be_bytes` takes out the same bytes
pub be_bytes : (w v : ℕ) → v < 256 ^ w → be w v ≡ bytes_high_first w v
be_bytes w v h = sym (ap (be w) (mod-eq_of_lt h)) ∙ be_mod w v

-- a number whose first byte stands apart
pub be_cons : (w x y : ℕ) → y < 256 ^ w → be (suc w) (x * 256 ^ w + y) ≡ x ∷ be w y
unfolding be
be_cons w x y h = rw (digits_div x h, digits_mod x h)

pub be_one : (x : ℕ) → be 1 x ≡ x ∷ []
unfolding be
be_one x = rw div-one

-- stores byte by byte, from the k-th after at on
abbrev pub puts : ℕ → ℕ → List ℕ → List ℕ → List ℕ
puts at k [] l = l
puts at k (b ∷ bs) l = puts at (suc k) bs (set l (at + k) b)

puts_sets : (at k : ℕ) (bs l : List ℕ) → puts at k bs l ≡ sets l (at + k) bs
puts_sets at k [] l = refl
puts_sets at k (b ∷ bs) l = puts_sets at (suc k) bs (set l (at + k) b) ∙ ap (λ (n : ℕ). sets (set l (at + k) b) n bs) (add-suc at k)

-- a number and those after it, one by one
pub sets_puts : (at b : ℕ) (bs l : List ℕ) → puts at 1 bs (set l at b) ≡ sets l at (b ∷ bs)
sets_puts at b bs l = puts_sets at 1 bs (set l at b) ∙ ap (λ (n : ℕ). sets (set l at b) n bs) (add-one at)

pub store_puts : (at b : ℕ) (bs l : List ℕ) → at + suc (length bs) ≤ length l → puts at 1 bs (set l at b) ≡ store at (b ∷ bs) l
store_puts at b bs l h = sets_puts at b bs l ∙ store_sets at (b ∷ bs) l h

-- the bytes of a number, taken out one by one
abbrev pub digits : ℕ → ℕ → List ℕ
digits zero v = []
digits (suc w) v = v / 256 ^ w % 256 ∷ digits w v

digits_are : (w v : ℕ) → bytes_high_first w v ≡ digits w v
digits_are zero v = refl
digits_are (suc w) v = rw (digits_are w v, ← byte_is w v)

pub be_digits : (w v : ℕ) → v < 256 ^ w → be w v ≡ digits w v
be_digits w v h = be_bytes w v h ∙ digits_are w v

length_digits : (w v : ℕ) → length (digits w v) ≡ w
length_digits zero v = refl
length_digits (suc w) v = ap suc (length_digits w v)

-- a number of suc w bytes, byte by byte
pub store_number : (w at v : ℕ) (l : List ℕ) → v < 256 ^ suc w → at + suc w ≤ length l → puts at 1 (digits w v) (set l at (v / 256 ^ w % 256)) ≡ store at (be (suc w) v) l
store_number w at v l f h = store_puts at (v / 256 ^ w % 256) (digits w v) l (rw length_digits h) ∙ ap (λ (bs : List ℕ). store at bs l) (sym (be_digits (suc w) v f))
