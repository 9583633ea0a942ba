-- Bytes, big-endian numbers of any width, and bytes stored into a buffer.
use Rattle.std.specs.Prelude.{ℕ, zero, suc, ◌+◌, ◌*◌, ◌/◌, ◌%◌, ◌^◌, ◌<◌, List, [], ◌∷◌, ◌++◌, length, take, drop}

abbrev pub Bytes : List ℕ → Type 0
Bytes [] = Unit {0}
Bytes (b ∷ bs) = (b < 256) × Bytes bs

-- a number as w bytes, most significant first
unfoldable pub be : ℕ → ℕ → List ℕ
be zero v = []
be (suc w) v = v / 256 ^ w ∷ be w (v % 256 ^ w)

-- the number that bytes make
unfoldable pub val : List ℕ → ℕ
val [] = 0
val (b ∷ bs) = b * 256 ^ length bs + val bs

-- fields in a row: as bytes, and back, by the list of their widths
unfoldable pub put : List ℕ → List ℕ → List ℕ
put [] vs = []
put (w ∷ ws) [] = []
put (w ∷ ws) (v ∷ vs) = be w v ++ put ws vs

unfoldable pub get : List ℕ → List ℕ → List ℕ
get [] bs = []
get (w ∷ ws) bs = val (take w bs) ∷ get ws (drop w bs)

abbrev pub Fits : List ℕ → List ℕ → Type 0
Fits [] [] = Unit {0}
Fits [] (v ∷ vs) = ⊥
Fits (w ∷ ws) [] = ⊥
Fits (w ∷ ws) (v ∷ vs) = (v < 256 ^ w) × Fits ws vs

unfoldable pub sum : List ℕ → ℕ
sum [] = 0
sum (n ∷ ns) = n + sum ns

-- the buffer l with bs from position `at` on
unfoldable pub store : ℕ → List ℕ → List ℕ → List ℕ
store at bs l = take at l ++ (bs ++ drop (at + length bs) l)
