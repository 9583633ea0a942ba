-- Document 02, order 4: is a value well-formed UTF-8? RFC 3629, section 3, has the table
--
--     code points          octets in binary, of which the x are the code point's bits
--     0000 to 007F         0xxxxxxx
--     0080 to 07FF         110xxxxx 10xxxxxx
--     0800 to FFFF         1110xxxx 10xxxxxx 10xxxxxx
--     10000 to 10FFFF      11110xxx 10xxxxxx 10xxxxxx 10xxxxxx
--
-- The verdict is yes exactly where the bytes are some sequence of code points, encoded so, and no two sequences have the same bytes
-- (`Claims.utf8_text`, `one_text`).
use Rattle.std.specs.Prelude.{ℕ, zero, suc, ◌+◌, ◌-◌, ◌*◌, ◌/◌, ◌%◌, ◌^◌, ◌≤◌, ◌≡◌, ◌⊎◌, Bool, true, false, ◌&&◌, ◌||◌, List, [], ◌∷◌, ◌++◌, leb}
use Rattle.rfc3550.specs.Answer.{pick}
use Rattle.rfc3550.specs.Packet.{Item, item, priv, All}

-- ---- "some sequence of code points encoded by the RFC"

-- 0 to 10FFFF, but for the surrogates D800 to DFFF
abbrev pub CodePoint : ℕ → Type 0
CodePoint c = (c ≤ 0xD7FF) ⊎ ((0xE000 ≤ c) × (c ≤ 0x10FFFF))

-- n octets "10xxxxxx": six bits each, the lowest in the last
unfoldable pub continuation : ℕ → ℕ → List ℕ
continuation zero c = []
continuation (suc n) c = (0x80 + c / 64 ^ n % 64) ∷ continuation n c

-- a row of the table: the first octet without its x, and how many octets follow it
abbrev pub row : ℕ → ℕ → ℕ → List ℕ
row high n c = (high + c / 64 ^ n) ∷ continuation n c

unfoldable pub encode : ℕ → List ℕ
encode c = pick (leb c 0x7F) (row 0 0 c) (pick (leb c 0x7FF) (row 0xC0 1 c) (pick (leb c 0xFFFF) (row 0xE0 2 c) (row 0xF0 3 c)))

unfoldable pub encodes : List ℕ → List ℕ
encodes [] = []
encodes (c ∷ cs) = encode c ++ encodes cs

pub record Text (bs : List ℕ) : Type 0 where
  pub points : List ℕ
  pub valid : All CodePoint points
  pub bytes : encodes points ≡ bs

-- ---- the verdict, an octet at a time

abbrev pub is_code_point : ℕ → Bool
is_code_point c = leb c 0xD7FF || (leb 0xE000 c && leb c 0x10FFFF)

-- between two characters; behind an octet of one, with how many are to come behind the next, the bits so far and the row's first code point; malformed
pub data State : Type 0 where
  between : State
  inside : ℕ → ℕ → ℕ → State
  malformed : State

-- n octets are to come
unfoldable pub within : ℕ → ℕ → ℕ → State
within zero v least = pick (leb least v && is_code_point v) between malformed
within (suc n) v least = inside n v least

unfoldable pub lead : ℕ → State
lead b =
    pick (leb b 0x7F) (within 0 b 0)
    (pick (leb b 0xBF) malformed
    (pick (leb b 0xDF) (within 1 (b - 0xC0) 0x80) (pick (leb b 0xEF) (within 2 (b - 0xE0) 0x800) (pick (leb b 0xF7) (within 3 (b - 0xF0) 0x10000) malformed))))

unfoldable pub next : State → ℕ → State
next between b = lead b
next (inside n v least) b = pick (leb 0x80 b && leb b 0xBF) (within n (v * 64 + (b - 0x80)) least) malformed
next malformed b = malformed

unfoldable pub run : State → List ℕ → State
run q [] = q
run q (b ∷ bs) = run (next q b) bs

abbrev pub ended : State → Bool
ended between = true
ended (inside n v least) = false
ended malformed = false

unfoldable pub is_utf8 : List ℕ → Bool
is_utf8 bs = ended (run between bs)

-- ---- "if its value is well-formed UTF-8 .. A PRIV prefix isn't judged"

abbrev pub value_of : Item → List ℕ
value_of (item t v) = v
value_of (priv p v) = v

abbrev pub item_utf8 : Item → Bool
item_utf8 i = is_utf8 (value_of i)
