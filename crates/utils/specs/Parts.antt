-- A part of a packet that is handed back: none where the reading refuses.
use Rattle.std.specs.Prelude.{ℕ, List, []}
use Rattle.rfc3550.specs.Answer.{Answer, ok, refused}
use Rattle.rfc3550.specs.Packet.{Packet}

unfoldable pub part_in : (Packet → List ℕ) → Answer Packet → List ℕ
part_in part (ok p) = part p
part_in part (refused r) = []

abbrev pub padding_in : Answer Packet → List ℕ
padding_in a = part_in (λ p. p.padding) a
