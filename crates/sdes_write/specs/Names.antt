-- A CNAME in the lists of an SDES as they are lent.
use Rattle.std.specs.Prelude.{ℕ, Bool, false, ◌||◌, List, [], ◌∷◌, drop, get_or}
use Rattle.rfc3550.specs.Packet.{is_cname}

-- some item is one, by its type and the length of its value
unfoldable pub lent_cname : List ℕ → List ℕ → Bool
lent_cname [] vs = false
lent_cname (t ∷ ts) vs = is_cname t (get_or vs 0 0) || lent_cname ts (drop 1 vs)
