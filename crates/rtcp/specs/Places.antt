-- The parts of a packet in its bytes s, at the places that C's numbers name: a report's extension, a BYE's reason and tail, an APP's name and
-- data, the body of an unknown packet; and the padding of each.
use Rattle.std.specs.Prelude.{ℕ, ◌+◌, ◌-◌, ◌≡◌, List, [], ◌∷◌, length, take, drop, eqb}
use Rattle.rfc3550.specs.Answer.{Answer, ok, refuse, map_ok, pick}
use Rattle.rfc3550.specs.Packet.{Item, item_type, item_rest, is_cname, Content, report, sdes, bye, app, unknown, Packet as Read}
use Rattle.rfc3550.specs.Read.{read_item}
use Rattle.bye.specs.Bye.{reason_bytes, tail_bytes}
use Rattle.rtcp.specs.declared.read_compound.PacketNumbers.{PacketNumbers}

abbrev pub Parts : Content → PacketNumbers → List ℕ → Type 0
Parts (report r bs x) n s = take (n.body - n.extension) (drop n.extension s) ≡ x
Parts (sdes cs) n s = Unit {0}
Parts (bye ss l) n s =
    (take n.reason_len (drop n.reason s) ≡ reason_bytes l)
    × (take (n.body - (n.reason + n.reason_len)) (drop (n.reason + n.reason_len) s) ≡ tail_bytes l)
Parts (app subtype ssrc name d) n s = (take 4 (drop 8 s) ≡ name) × (take (n.body - 12) (drop 12 s) ≡ d)
Parts (unknown t low b) n s = take (n.body - 4) (drop 4 s) ≡ b

pub record Places (s : List ℕ) (p : Read) (n : PacketNumbers) : Type 0 where
  pub parts : Parts p.content n s
  pub padding : take n.padding_len (drop n.body s) ≡ p.padding

-- ---- the first CNAME of a chunk, and the item at the place of one; 0 is none

abbrev pub first_cname : List Item → Answer Item
first_cname [] = refuse 25 0 0
first_cname (i ∷ is) = pick (is_cname (item_type i) (length (item_rest i))) (ok i) (first_cname is)

abbrev pub item_at : List ℕ → ℕ → Answer Item
item_at s at = pick (eqb at 0) (refuse 25 0 0) (map_ok (λ (x : Item × List ℕ). x.0) (read_item (drop at s)))
