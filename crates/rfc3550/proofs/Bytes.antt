-- Laws of big-endian numbers and of fields in a row, over the width.
use Rattle.rfc3550.proofs.Prelude.{ℕ, zero, suc, ◌+◌, ◌*◌, ◌%◌, ◌^◌, ◌<◌, ◌≤◌, ◌≡◌, refl, sym, ap, subst, List, [], ◌∷◌, ◌++◌, append_assoc, zero-add, mod-lt, div-add-mod', one-le-pow, pow-suc, arith, length, take, drop, get_or, replicate, length-append, length-drop, take-append-drop, take_at, drop_at, length-take-le, drop-drop, digits_lt, digits_div, digits_mod}
use Rattle.rfc3550.specs.Bytes.{Bytes, be, val, put, get, Fits, sum, store}

-- ---- be and val

pow_pos : (w : ℕ) → 0 < 256 ^ w
pow_pos w = one-le-pow w 256 (omega arith)

pub length_be : (w v : ℕ) → length (be w v) ≡ w
unfolding be
length_be zero v = refl
length_be (suc w) v = ap suc (length_be w (v % 256 ^ w))

pub val_be : (w v : ℕ) → v < 256 ^ w → val (be w v) ≡ v
unfolding be val
val_be zero v h = omega arith
val_be (suc w) v h = rw (length_be w (v % 256 ^ w), val_be w (v % 256 ^ w) (mod-lt v (pow_pos w))) (div-add-mod' v (256 ^ w))

pub val_lt : (bs : List ℕ) → Bytes bs → val bs < 256 ^ length bs
unfolding val
val_lt [] h = omega arith
val_lt (b ∷ bs) h = rw (pow-suc 256 (length bs)) (omega (arith, digits_lt h.0 (val_lt bs h.1)))

pub be_val : (bs : List ℕ) → Bytes bs → be (length bs) (val bs) ≡ bs
unfolding be val
be_val [] h = refl
be_val (b ∷ bs) h = rw (digits_div b (val_lt bs h.1), digits_mod b (val_lt bs h.1), be_val bs h.1)

-- ---- lists of bytes

pub bytes_take : (n : ℕ) (bs : List ℕ) → Bytes bs → Bytes (take n bs)
bytes_take zero bs h = tt
bytes_take (suc n) [] h = tt
bytes_take (suc n) (b ∷ bs) h = (h.0, bytes_take n bs h.1)

pub bytes_drop : (n : ℕ) (bs : List ℕ) → Bytes bs → Bytes (drop n bs)
bytes_drop zero bs h = h
bytes_drop (suc n) [] h = tt
bytes_drop (suc n) (b ∷ bs) h = bytes_drop n bs h.1

pub bytes_get_or : (bs : List ℕ) (i : ℕ) → Bytes bs → get_or bs i 0 < 256
bytes_get_or [] i h = omega arith
bytes_get_or (b ∷ bs) zero h = h.0
bytes_get_or (b ∷ bs) (suc i) h = bytes_get_or bs i h.1

pub bytes_each : (bs : List ℕ) → ((i : ℕ) → get_or bs i 0 < 256) → Bytes bs
bytes_each [] h = tt
bytes_each (b ∷ bs) h = (h 0, bytes_each bs (λ i. h (suc i)))

pub bytes_append : (a b : List ℕ) → Bytes a → Bytes b → Bytes (a ++ b)
bytes_append [] b h k = k
bytes_append (x ∷ xs) b h k = (h.0, bytes_append xs b h.1 k)

pub bytes_zeros : (n : ℕ) → Bytes (replicate n 0)
bytes_zeros zero = tt
bytes_zeros (suc n) = (omega arith, bytes_zeros n)

pub bytes_after : (a r : List ℕ) {bs : List ℕ} → a ++ r ≡ bs → Bytes bs → Bytes r
bytes_after a r e h = go a (subst Bytes (sym e) h)
  where
    go : (a : List ℕ) → Bytes (a ++ r) → Bytes r
    go [] h = h
    go (x ∷ xs) h = go xs h.1

-- the first w bytes are the number that they make, at that width
pub be_take : (w : ℕ) (bs : List ℕ) → w ≤ length bs → Bytes bs → be w (val (take w bs)) ≡ take w bs
be_take w bs l h = subst (λ (n : ℕ). be n (val (take w bs)) ≡ take w bs) (length-take-le w bs l) (be_val (take w bs) (bytes_take w bs h))

pub val_take_lt : (w : ℕ) (bs : List ℕ) → w ≤ length bs → Bytes bs → val (take w bs) < 256 ^ w
val_take_lt w bs l h = subst (λ (n : ℕ). val (take w bs) < 256 ^ n) (length-take-le w bs l) (val_lt (take w bs) (bytes_take w bs h))

-- ---- put and get

pub get_put : (ws vs rest : List ℕ) → Fits ws vs → get ws (put ws vs ++ rest) ≡ vs
unfolding get put
get_put [] [] rest h = refl
get_put [] (v ∷ vs) rest h = absurd h
get_put (w ∷ ws) [] rest h = absurd h
get_put (w ∷ ws) (v ∷ vs) rest h =
    rw (append_assoc (be w v) (put ws vs) rest, take_at (be w v) (put ws vs ++ rest) w (length_be w v), drop_at (be w v) (put ws vs ++ rest) w (length_be w v), val_be w v h.0, get_put ws vs rest h.1)

pub length_put : (ws vs : List ℕ) → Fits ws vs → length (put ws vs) ≡ sum ws
unfolding put sum
length_put [] [] h = refl
length_put [] (v ∷ vs) h = absurd h
length_put (w ∷ ws) [] h = absurd h
length_put (w ∷ ws) (v ∷ vs) h = rw (length-append, length_be, length_put ws vs h.1)

pub put_get : (ws bs : List ℕ) → sum ws ≤ length bs → Bytes bs → put ws (get ws bs) ++ drop (sum ws) bs ≡ bs
unfolding get put sum
put_get [] bs l h = refl
put_get (w ∷ ws) bs l h =
    rw (append_assoc, be_take w bs (omega arith) h, ← drop-drop (sum ws) w bs, put_get ws (drop w bs) (rw length-drop (omega arith)) (bytes_drop w bs h)) (take-append-drop w bs)

pub fits_get : (ws bs : List ℕ) → sum ws ≤ length bs → Bytes bs → Fits ws (get ws bs)
unfolding get sum
fits_get [] bs l h = tt
fits_get (w ∷ ws) bs l h = (val_take_lt w bs (omega arith) h, fits_get ws (drop w bs) (rw length-drop (omega arith)) (bytes_drop w bs h))

pub length_get : (ws bs : List ℕ) → length (get ws bs) ≡ length ws
unfolding get
length_get [] bs = refl
length_get (w ∷ ws) bs = ap suc (length_get ws (drop w bs))

pub sum_replicate : (n w : ℕ) → sum (replicate n w) ≡ w * n
unfolding sum
sum_replicate zero w = omega arith
sum_replicate (suc n) w = omega (arith, sum_replicate n w)

-- ---- store

pub length_store : (at : ℕ) (bs l : List ℕ) → at + length bs ≤ length l → length (store at bs l) ≡ length l
unfolding store
length_store at bs l h = rw (length-append, length-append, length-drop, length-take-le at l (omega arith)) (omega arith)

pub store_front : (bs l : List ℕ) → store 0 bs l ≡ bs ++ drop (length bs) l
unfolding store
store_front bs l = rw zero-add
