-- What the rows of `items::items` say: of each its SSRC and, from the bytes s of the packet, its item, or 25 where the items of its chunk are ended.
use Rattle.std.specs.Prelude.{ℕ, ◌-◌, List, [], ◌∷◌, ◌++◌, take, drop, eqb}
use Rattle.rfc3550.specs.Answer.{Answer, ok, refuse, pick}
use Rattle.rfc3550.specs.Packet.{Item, item, priv, Chunk}

abbrev pub entry_in : List ℕ → ℕ → ℕ → ℕ → ℕ → Answer Item
entry_in s t at prefix len =
    pick (eqb t 0) (refuse 25 0 0)
    (pick (eqb t 8) (ok (priv (take prefix (drop (at - prefix) s)) (take len (drop at s)))) (ok (item t (take len (drop at s)))))

abbrev pub entries_in : List ℕ → List ℕ → List (ℕ × Answer Item)
entries_in s [] = []
entries_in s (a ∷ []) = []
entries_in s (a ∷ b ∷ []) = []
entries_in s (a ∷ b ∷ c ∷ []) = []
entries_in s (a ∷ b ∷ c ∷ d ∷ []) = []
entries_in s (ssrc ∷ t ∷ at ∷ prefix ∷ len ∷ rows) = (ssrc, entry_in s t at prefix len) ∷ entries_in s rows

abbrev pub item_entries : ℕ → List Item → List (ℕ × Answer Item)
item_entries ssrc [] = (ssrc, refuse 25 0 0) ∷ []
item_entries ssrc (i ∷ is) = (ssrc, ok i) ∷ item_entries ssrc is

abbrev pub chunk_entries : List Chunk → List (ℕ × Answer Item)
chunk_entries [] = []
chunk_entries (c ∷ cs) = item_entries c.ssrc c.items ++ chunk_entries cs
