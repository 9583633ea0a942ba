-- Document 02, order 2: which chunks of an SDES packet name the SSRCs of a list.
use Rattle.std.specs.Prelude.{ℕ, suc, ◌≤◌, Bool, ◌&&◌, List, [], ◌∷◌, map, length, leb, eqb}
use Rattle.rfc3550.specs.Answer.{Answer, ok, refused, ◌>>=◌, ◌>>◌, need, map_ok, pick}
use Rattle.rfc3550.specs.Bytes.{store}
use Rattle.rfc3550.specs.Packet.{Chunk, chunk_has_cname, chunks_of}
use Rattle.rfc3550.specs.Read.{SDES, low_in, read_as}

-- "the index of the first chunk .., or none"
pub data Found : Type 0 where
  none : Found
  at : ℕ → Found

abbrev pub later : Found → Found
later none = none
later (at i) = at (suc i)

unfoldable pub first : {A : Type 0} → (A → Bool) → List A → Found
first test [] = none
first test (x ∷ xs) = pick (test x) (at 0) (later (first test xs))

-- "with that SSRC and a CNAME in it"
abbrev pub names : ℕ → Chunk → Bool
names ssrc c = eqb c.ssrc ssrc && chunk_has_cname c

-- "answers for each SSRC"
unfoldable pub found_in : List Chunk → List ℕ → List Found
found_in cs ssrcs = map (λ (ssrc : ℕ). first (names ssrc) cs) ssrcs

-- "31, list longer than the answer buffer, ahead of the packet's own checks"
unfoldable pub lookup : ℕ → List ℕ → List ℕ → Answer (List Found)
lookup room s ssrcs = do
  need (leb (length ssrcs) room) 31 0 0
  p ← read_as SDES s
  ok (found_in (chunks_of p.content) ssrcs)

-- "the number of chunks visited, for now at most the header's count, which is all that is fixed of it"
abbrev pub Visited : List ℕ → List ℕ → ℕ → Type 0
Visited s ssrcs visits = visits ≤ low_in s

-- an answer as it stands in the buffer: the index, or 255, which no index is
abbrev pub coded : Found → ℕ
coded none = 255
coded (at i) = i

abbrev pub decoded : ℕ → Found
decoded n = pick (eqb n 255) none (at n)

-- "A refusal writes no answer, and entries past the list stay"
abbrev pub answers_after : Answer (List Found) → List ℕ → List ℕ
answers_after (ok fs) l = store 0 (map coded fs) l
answers_after (refused r) l = l

-- the call with so many visits: what it answers, and the answer buffer that it leaves
unfoldable pub lookup_with : ℕ → List ℕ → List ℕ → List ℕ → Answer ℕ × List ℕ
lookup_with visits s ssrcs l = (map_ok (λ (fs : List Found). visits) (lookup (length l) s ssrcs), answers_after (lookup (length l) s ssrcs) l)
