-- The same rows by the bytes of an accepted body: what stands at a place, and the place of the next row.
use Rattle.std.specs.Prelude.{ℕ, zero, suc, ◌+◌, ◌*◌, ◌<◌, ◌≤◌, ◌≡◌, List, [], ◌∷◌, ◌++◌, Option, None, Some, option_map, unwrap_or, length, get_or, take, drop, ltb, eqb}
use Rattle.rfc3550.specs.Answer.{ok, pick}
use Rattle.rfc3550.specs.Bytes.{val, store}
use Rattle.rfc3550.specs.Packet.{Item, fill}
use Rattle.rfc3550.specs.Read.{read_item}
use Rattle.utils.specs.Error.{value_in}
use Rattle.sdes_chunk.specs.Item.{item_end}
use Rattle.sdes.specs.declared.items.Row.{Row}
use Rattle.sdes.specs.declared.items.Place.{Place}
use Rattle.sdes.specs.ItemRows.{item_row}

abbrev pub row_of : Row → List ℕ
row_of r = r.ssrc ∷ r.type_ ∷ r.value ∷ r.prefix_len ∷ r.value_len ∷ []

-- the first place of the chunk that starts here; behind the last chunk there is no SSRC
abbrev pub chunk_place : List ℕ → ℕ → Place
chunk_place s start = record { ssrc = pick (ltb (start + 4) (length s)) (val (take 4 (drop start s))) 0; at = start + 4 }

-- behind the zero and its fill, the next chunk; behind an item, what follows it
abbrev pub place_after : List ℕ → Place → Place
place_after s p = pick (eqb (get_or s p.at 0) 0) (chunk_place s (p.at + fill p.at)) (record { ssrc = p.ssrc; at = unwrap_or (option_map (item_end p.at) (value_in (read_item (drop p.at s)))) 0 })

abbrev pub row_at : List ℕ → Place → List ℕ
row_at s p = pick (eqb (get_or s p.at 0) 0) (p.ssrc ∷ 0 ∷ p.at ∷ 0 ∷ 0 ∷ []) (unwrap_or (option_map (λ (x : Item × List ℕ). item_row p.ssrc p.at x.0) (value_in (read_item (drop p.at s)))) [])

-- a zero, or an item behind which something stands
pub record HasRow (s : List ℕ) (at : ℕ) : Type 0 where
  pub within : at < length s
  pub read : (get_or s at 0 ≡ 0 → ⊥) → (x : Item × List ℕ) × (read_item (drop at s) ≡ ok x) × (0 < length x.1)

-- n rows from a place on, and no more
abbrev pub RowsAt : ℕ → List ℕ → Place → Type 0
RowsAt zero s p = length s ≤ p.at
RowsAt (suc n) s p = HasRow s p.at × RowsAt n s (place_after s p)

unfoldable pub rows_from : ℕ → List ℕ → Place → List ℕ
rows_from zero s p = []
rows_from (suc n) s p = row_at s p ++ rows_from n s (place_after s p)

-- how long a list has to be, where this room is too short
pub record Needed (s : List ℕ) (room : ℕ) (r : Option ℕ) : Type 0 where
  pub n : ℕ
  pub rows : RowsAt n s (chunk_place s 4)
  pub enough : r ≡ None → n * 5 ≤ room
  pub short : (k : ℕ) → r ≡ Some k → (k ≡ n * 5) × (room < k)

-- the list has room for the rows from a place on, laid from i on
pub record RoomFor (s : List ℕ) (p : Place) (l : List ℕ) (i : ℕ) : Type 0 where
  pub n : ℕ
  pub rows : RowsAt n s p
  pub fits : i + n * 5 ≤ length l

-- the rows from p on are to be laid from i on: in l₁ those up to q are, up to j, and the others, stored there, make the whole
pub record LaidUpTo (s : List ℕ) (p : Place) (i : ℕ) (l : List ℕ) (q : Place) (j : ℕ) (l₁ : List ℕ) : Type 0 where
  pub n : ℕ
  pub left : ℕ
  pub whole : RowsAt n s p
  pub rest : RowsAt left s q
  pub fits : i + n * 5 ≤ length l
  pub place : j + left * 5 ≡ i + n * 5
  pub long : length l₁ ≡ length l
  pub same : store j (rows_from left s q) l₁ ≡ store i (rows_from n s p) l

pub record ItemsLaid (s : List ℕ) (p : Place) (i : ℕ) (l : List ℕ) (q : Place) (j : ℕ) (l₁ : List ℕ) : Type 0 where
  pub within : q.at < length s
  pub on : p.at ≤ q.at
  pub laid : LaidUpTo s p i l q j l₁

pub record AllLaid (s l : List ℕ) (r : ℕ) (l₁ : List ℕ) : Type 0 where
  pub n : ℕ
  pub rows : RowsAt n s (chunk_place s 4)
  pub size : r ≡ n * 5
  pub laid : l₁ ≡ store 0 (rows_from n s (chunk_place s 4)) l
