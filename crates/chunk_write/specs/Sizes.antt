-- The sizes of items and chunks from their lengths alone.
use Rattle.std.specs.Prelude.{ℕ, ◌+◌, ◌-◌, ◌*◌, ◌<◌, ◌≤◌, ◌^◌, ◌≡◌, ◌||◌, ◌&&◌, not, Option, None, Some, List, [], ◌∷◌, length, take, drop, get_or, leb, eqb}
use Rattle.std.specs.Option.{option_and_then}
use Rattle.rfc3550.specs.Answer.{refusal, Answer, ok, refused, need, ◌>>◌, ◌>>=◌, map_ok, pick}
use Rattle.rfc3550.specs.Bytes.{sum}
use Rattle.rfc3550.specs.Write.{LentItem}
use Rattle.rfc3550.specs.Packet.{fill}
use Rattle.utils.specs.Error.{value_in}
use Rattle.chunk_write.specs.declared.chunks.ItemsEnd.{ItemsEnd}

abbrev pub lent : ℕ → List ℕ → List ℕ → LentItem
lent t p v = record { type = t; prefix = p; value = v }

-- of a type, a prefix length and a value length
abbrev pub item_length : ℕ → ℕ → ℕ → ℕ
item_length t p v = pick (eqb t 8) (3 + p + v) (2 + v)

-- what stands before the prefix and the value of a PRIV item, from their lengths
abbrev pub priv_head : ℕ → ℕ → List ℕ
priv_head p n = 8 ∷ (1 + n) ∷ p ∷ []

-- 23, 21, 20
unfoldable pub size_of : ℕ → ℕ → ℕ → Answer ℕ
size_of t p v = do
  need (not (eqb t 0)) 23 0 0
  need (not (eqb t 8) || leb p 254) 21 p 254
  need (leb v (pick (eqb t 8) (254 - p) 255)) 20 v (pick (eqb t 8) (254 - p) 255)
  ok (item_length t p v)

-- there is a size, and room for so much
pub record HasRoom (size : Answer ℕ) (space : ℕ) : Type 0 where
  pub n : ℕ
  pub is : size ≡ ok n
  pub room : n ≤ space

pub record SameLengths (ts ps vs : List ℕ) : Type 0 where
  pub prefixes : length ps ≡ length ts
  pub values : length vs ≡ length ts

-- the elements from index i up to index j
abbrev pub between : ℕ → ℕ → List ℕ → List ℕ
between i j xs = take (j - i) (drop i xs)

abbrev pub too_large : Answer ℕ
too_large = refused (refusal 22 0 0)

-- the refusal of the first refused item, or else 22
unfoldable pub items_refused : List ℕ → List ℕ → List ℕ → Answer ℕ
items_refused [] ps vs = too_large
items_refused (t ∷ ts) ps vs = do
  n ← size_of t (get_or ps 0 0) (get_or vs 0 0)
  items_refused ts (drop 1 ps) (drop 1 vs)

-- the sizes of the items of the lent lists, added to n
unfoldable pub sizes_of : ℕ → List ℕ → List ℕ → List ℕ → Answer ℕ
sizes_of n [] ps vs = ok n
sizes_of n (t ∷ ts) ps vs = do
  m ← size_of t (get_or ps 0 0) (get_or vs 0 0)
  sizes_of (n + m) ts (drop 1 ps) (drop 1 vs)

-- the word boundary after an index
abbrev pub boundary_above : ℕ → ℕ
boundary_above at = at + fill at

-- the end of chunks of so many items, the first at `at`
unfoldable pub chunks_from : ℕ → List ℕ → List ℕ → List ℕ → List ℕ → Answer ℕ
chunks_from at [] ts ps vs = ok at
chunks_from at (c ∷ cs) ts ps vs = do
  end ← map_ok boundary_above (sizes_of (at + 4) (take c ts) (take c ps) (take c vs))
  chunks_from end cs (drop c ts) (drop c ps) (drop c vs)

-- the index n after items, and how many bytes are left
abbrev pub ends_at : ℕ → ℕ → ItemsEnd
ends_at left n = record { end = n; left = left }

-- the end of items whose bytes are among those left
unfoldable pub items_end : ℕ → ℕ → List ℕ → List ℕ → List ℕ → Option ItemsEnd
items_end at left ts ps vs = pick (leb (sum ps + sum vs) left) (value_in (map_ok (ends_at (left - (sum ps + sum vs))) (sizes_of at ts ps vs))) None

-- the end of chunks whose counts sum to the items, and whose lengths to the bytes
unfoldable pub chunks_end : ℕ → ℕ → List ℕ → List ℕ → List ℕ → List ℕ → Option ℕ
chunks_end at bytes cs ts ps vs = pick (eqb (sum cs) (length ts) && eqb (sum ps + sum vs) bytes) (value_in (chunks_from at cs ts ps vs)) None

-- up to a limit
abbrev pub at_most : ℕ → Option ℕ → Option ℕ
at_most limit = option_and_then (λ n. pick (leb n limit) (Some n) None)

-- ---- what the code is given

pub record ItemsMeasured (at left : ℕ) (ts ps vs : List ℕ) : Type 0 where
  pub listed : SameLengths ts ps vs
  pub room : at + left + 3 * length ts < 2 ^ 64

pub record ChunksMeasured (at : ℕ) (cs ts ps vs : List ℕ) (left : ℕ) : Type 0 where
  pub listed : SameLengths ts ps vs
  pub room : at + left + 3 * length ts + 8 * length cs < 2 ^ 64
  pub scaled : length ts * 8 < 2 ^ 64
