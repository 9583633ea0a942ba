-- What the code of the lookup answers, and the answers while its pass goes on.
use Rattle.std.specs.Prelude.{ℕ, zero, suc, ◌+◌, ◌≤◌, ◌≡◌, ◌&&◌, List, [], ◌∷◌, map, length, drop, eqb}
use Rattle.rfc3550.specs.Answer.{ok, pick}
use Rattle.rfc3550.specs.Bytes.{store}
use Rattle.rfc3550.specs.Packet.{Chunk}
use Rattle.rfc3550.specs.Read.{read_chunks}
use Rattle.rfc3550.specs.Lookup.{found_in, coded}

-- chunk k is the answer for this SSRC, where there is none yet
unfoldable pub marked : ℕ → ℕ → List ℕ → List ℕ → List ℕ
marked k ssrc [] l = l
marked k ssrc (s ∷ ssrcs) [] = []
marked k ssrc (s ∷ ssrcs) (a ∷ l) = pick (eqb ssrc s && eqb a 255) k a ∷ marked k ssrc ssrcs l

-- how many of the first n have no answer yet
unfoldable pub unanswered_in : ℕ → List ℕ → ℕ
unanswered_in zero l = 0
unanswered_in (suc n) [] = 0
unanswered_in (suc n) (a ∷ l) = pick (eqb a 255) 1 0 + unanswered_in n l

-- the answers for the n chunks of a body, and the visits
pub record Answered (n : ℕ) (body ssrcs l : List ℕ) (visits : ℕ) (l₁ : List ℕ) : Type 0 where
  pub chunks : List Chunk
  pub read : read_chunks n (length body) (drop 4 body) ≡ ok chunks
  pub most : visits ≤ n
  pub laid : l₁ ≡ store 0 (map coded (found_in chunks ssrcs)) l
