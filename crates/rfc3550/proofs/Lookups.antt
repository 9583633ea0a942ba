-- The first of a list that passes a test, and one pass over chunks that answers for every SSRC of a list.
use Rattle.rfc3550.proofs.Prelude.{ℕ, zero, suc, ◌+◌, ◌<◌, ◌≤◌, ◌≡◌, refl, sym, ap, ◌∙◌, subst, Bool, true, false, List, [], ◌∷◌, ◌++◌, map, arith, length, take, drop, length-map, leb, le-leb, lt-leb, leb-true, ne_eqb, take_at, drop_at}
use Rattle.rfc3550.specs.Answer.{Refusal, Answer, ok, refused, refuse, need, ◌>>◌, ◌>>=◌, map_ok, pick}
use Rattle.rfc3550.specs.Bytes.{Bytes}
use Rattle.rfc3550.specs.Packet.{Chunk, Content, report, sdes, bye, app, unknown, Packet, low_bits, chunks_of, All, some}
use Rattle.rfc3550.specs.Read.{SDES, nth, read_as}
use Rattle.rfc3550.specs.Lookup.{Found, none, at, later, first, names, found_in, lookup, coded, decoded, answers_after, lookup_with}
use Rattle.rfc3550.proofs.Answers.{true≢false, ok_injective, refused≢ok, need_inv, bind_elim, map_ok_inv}
use Rattle.rfc3550.proofs.Bytes.{store_front}
use Rattle.rfc3550.proofs.Packets.{packet_iff}

-- ---- the first that passes

module _ {A : Type 0} (test : A → Bool) where
  abbrev pub Passes : List A → ℕ → Type 0
  Passes xs i = (x : A) × (nth i xs ≡ ok x) × (test x ≡ true)

  abbrev pub Fails : List A → ℕ → Type 0
  Fails xs i = (x : A) → nth i xs ≡ ok x → test x ≡ false

  fails_first : (x : A) (xs : List A) → test x ≡ false → Fails (x ∷ xs) 0
  fails_first x xs q y e = subst (λ (z : A). test z ≡ false) (ok_injective e) q

  abbrev First : List A → ℕ → Type 0
  First xs i = Passes xs i × ((j : ℕ) → j < i → Fails xs j)

  first_later : (x : A) (xs : List A) (i : ℕ) → test x ≡ false → First xs i → First (x ∷ xs) (suc i)
  first_later x xs i q w = (w.0, go w.1)
    where
      go : ((j : ℕ) → j < i → Fails xs j) → (j : ℕ) → j < suc i → Fails (x ∷ xs) j
      go f zero h = fails_first x xs q
      go f (suc j) h = f j (omega arith)

  pub found : (xs : List A) (i : ℕ) → first test xs ≡ at i → First xs i
  unfolding first
  found [] i e = absurd (let z : true ≡ false = cc in true≢false z)
  found (x ∷ xs) i e = go (test x) (first test xs) refl refl (λ i e. found xs i e) i e
    where
      go : (t : Bool) (g : Found) → test x ≡ t → first test xs ≡ g → ((i : ℕ) → first test xs ≡ at i → First xs i) → (i : ℕ) → pick t (at 0) (later g) ≡ at i → First (x ∷ xs) i
      go true g q r f zero e = ((x, refl, q), λ j h. absurd (omega arith))
      go true g q r f (suc i) e = absurd (let z : ◌≡◌ {A = ℕ} 0 (suc i) = cc in omega arith)
      go false none q r f i e = absurd (let z : true ≡ false = cc in true≢false z)
      go false (at k) q r f zero e = absurd (let z : ◌≡◌ {A = ℕ} (suc k) 0 = cc in omega arith)
      go false (at k) q r f (suc i) e = let n : suc k ≡ suc i = cc in first_later x xs i q (f i (r ∙ ap at (omega arith)))

  pub found_only : (xs : List A) (i : ℕ) → Passes xs i → ((j : ℕ) → j < i → Fails xs j) → first test xs ≡ at i
  unfolding first
  found_only [] i p f = absurd (refused≢ok p.1)
  found_only (x ∷ xs) zero p f = let q : test x ≡ true = subst (λ (z : A). test z ≡ true) (sym (ok_injective p.1)) p.2 in rw q
  found_only (x ∷ xs) (suc i) p f = rw (f 0 (omega arith) x refl, found_only xs i p (λ j h. f (suc j) (omega arith)))

  pub unfound : (xs : List A) → first test xs ≡ none → (i : ℕ) → Fails xs i
  unfolding first
  unfound [] e = λ i x r. absurd (refused≢ok r)
  unfound (x ∷ xs) e = go (test x) (first test xs) refl refl (λ e. unfound xs e) e
    where
      go : (t : Bool) (g : Found) → test x ≡ t → first test xs ≡ g → (first test xs ≡ none → (i : ℕ) → Fails xs i) → pick t (at 0) (later g) ≡ none → (i : ℕ) → Fails (x ∷ xs) i
      go true g q r f e i = absurd (let z : true ≡ false = cc in true≢false z)
      go false (at k) q r f e i = absurd (let z : true ≡ false = cc in true≢false z)
      go false none q r f e zero = fails_first x xs q
      go false none q r f e (suc i) = f r i

  pub unfound_only : (xs : List A) → ((i : ℕ) → Fails xs i) → first test xs ≡ none
  unfolding first
  unfound_only [] f = refl
  unfound_only (x ∷ xs) f = rw (f 0 x refl, unfound_only xs (λ i. f (suc i)))

-- how many chunks an answer takes: it lies below this number
abbrev pub reach : Found → ℕ
reach none = 0
reach (at i) = suc i

abbrev pub Below : ℕ → List Found → Type 0
Below k fs = All (λ (f : Found). reach f ≤ k) fs

first_reach : {A : Type 0} (test : A → Bool) (xs : List A) → reach (first test xs) ≤ length xs
unfolding first
first_reach test [] = omega arith
first_reach test (x ∷ xs) = go (test x) (first test xs) (first_reach test xs)
  where
    go : (t : Bool) (g : Found) → reach g ≤ length xs → reach (pick t (at 0) (later g)) ≤ suc (length xs)
    go true g h = omega arith
    go false none h = omega arith
    go false (at i) h = omega arith

pub found_below : (cs : List Chunk) (ssrcs : List ℕ) → Below (length cs) (found_in cs ssrcs)
unfolding found_in
found_below cs [] = tt
found_below cs (s ∷ ssrcs) = (first_reach (names s) cs, found_below cs ssrcs)

-- no index is 255, so what stands in the buffer tells the answers
pub decoded_coded : (k : ℕ) (fs : List Found) → k ≤ 255 → Below k fs → map decoded (map coded fs) ≡ fs
decoded_coded k [] h b = refl
decoded_coded k (none ∷ fs) h b = ap (λ (l : List Found). none ∷ l) (decoded_coded k fs h b.1)
decoded_coded k (at i ∷ fs) h b = rw (ne_eqb i 255 (omega (arith, b.0))) (ap (λ (l : List Found). at i ∷ l) (decoded_coded k fs h b.1))

-- ---- one pass: chunk k answers those that have no answer yet, and it ends once every answer is there

abbrev pub missing : Found → Bool
missing none = true
missing (at i) = false

abbrev pub nones : List ℕ → List Found
nones ssrcs = map (λ (ssrc : ℕ). none) ssrcs

unfoldable pub visit : ℕ → Chunk → List ℕ → List Found → List Found
visit k c [] fs = fs
visit k c (s ∷ ssrcs) [] = []
visit k c (s ∷ ssrcs) (none ∷ fs) = pick (names s c) (at k) none ∷ visit k c ssrcs fs
visit k c (s ∷ ssrcs) (at i ∷ fs) = at i ∷ visit k c ssrcs fs

-- the answers, and how many chunks were visited
unfoldable pub pass : ℕ → List Chunk → List ℕ → List Found → List Found × ℕ
pass k [] ssrcs fs = (fs, k)
pass k (c ∷ cs) ssrcs fs = pick (some missing fs) (pass (suc k) cs ssrcs (visit k c ssrcs fs)) (fs, k)

pub pass_done : (k : ℕ) (cs : List Chunk) (ssrcs : List ℕ) (fs : List Found) → some missing fs ≡ false → pass k cs ssrcs fs ≡ (fs, k)
unfolding pass
pass_done k [] ssrcs fs e = refl
pass_done k (c ∷ cs) ssrcs fs e = rw e

pub pass_more : (k : ℕ) (c : Chunk) (cs : List Chunk) (ssrcs : List ℕ) (fs : List Found) → some missing fs ≡ true → pass k (c ∷ cs) ssrcs fs ≡ pass (suc k) cs ssrcs (visit k c ssrcs fs)
unfolding pass
pass_more k c cs ssrcs fs e = rw e

pub visit_length : (k : ℕ) (c : Chunk) (ssrcs : List ℕ) (fs : List Found) → length fs ≡ length ssrcs → length (visit k c ssrcs fs) ≡ length ssrcs
unfolding visit
visit_length k c [] fs l = l
visit_length k c (s ∷ ssrcs) [] l = l
visit_length k c (s ∷ ssrcs) (none ∷ fs) l = ap suc (visit_length k c ssrcs fs (omega arith))
visit_length k c (s ∷ ssrcs) (at i ∷ fs) l = ap suc (visit_length k c ssrcs fs (omega arith))

below_up : (k : ℕ) (fs : List Found) → Below k fs → Below (suc k) fs
below_up k [] h = tt
below_up k (f ∷ fs) h = (omega arith, below_up k fs h.1)

pick_below : (k : ℕ) (t : Bool) → reach (pick t (at k) none) ≤ suc k
pick_below k true = omega arith
pick_below k false = omega arith

pub visit_below : (k : ℕ) (c : Chunk) (ssrcs : List ℕ) (fs : List Found) → Below k fs → Below (suc k) (visit k c ssrcs fs)
unfolding visit
visit_below k c [] fs h = below_up k fs h
visit_below k c (s ∷ ssrcs) [] h = tt
visit_below k c (s ∷ ssrcs) (none ∷ fs) h = (pick_below k (names s c), visit_below k c ssrcs fs h.1)
visit_below k c (s ∷ ssrcs) (at i ∷ fs) h = (omega arith, visit_below k c ssrcs fs h.1)

pub nones_below : (ssrcs : List ℕ) → Below 0 (nones ssrcs)
nones_below [] = tt
nones_below (s ∷ ssrcs) = (omega arith, nones_below ssrcs)

-- an answer that is there stands; else the first of the chunks from k on
abbrev from : ℕ → Found → Found
from k none = none
from k (at i) = at (k + i)

abbrev settled : ℕ → List Chunk → ℕ → Found → Found
settled k cs s none = from k (first (names s) cs)
settled k cs s (at i) = at i

unfoldable settle : ℕ → List Chunk → List ℕ → List Found → List Found
settle k cs [] fs = fs
settle k cs (s ∷ ssrcs) [] = []
settle k cs (s ∷ ssrcs) (f ∷ fs) = settled k cs s f ∷ settle k cs ssrcs fs

from_later : (k : ℕ) (f : Found) → from k (later f) ≡ from (suc k) f
from_later k none = refl
from_later k (at i) = ap at (omega arith)

from_start : (f : Found) → from 0 f ≡ f
from_start none = refl
from_start (at i) = ap at (omega arith)

settled_visit : (k : ℕ) (c : Chunk) (cs : List Chunk) (s : ℕ) (t : Bool) → names s c ≡ t → settled (suc k) cs s (pick t (at k) none) ≡ settled k (c ∷ cs) s none
unfolding first
settled_visit k c cs s true e = rw e (ap at (omega arith))
settled_visit k c cs s false e = rw e (sym (from_later k (first (names s) cs)))

settle_visit : (k : ℕ) (c : Chunk) (cs : List Chunk) (ssrcs : List ℕ) (fs : List Found) → settle (suc k) cs ssrcs (visit k c ssrcs fs) ≡ settle k (c ∷ cs) ssrcs fs
unfolding settle visit
settle_visit k c cs [] fs = refl
settle_visit k c cs (s ∷ ssrcs) [] = refl
settle_visit k c cs (s ∷ ssrcs) (none ∷ fs) = cc (settled_visit k c cs s _ refl, settle_visit k c cs ssrcs fs)
settle_visit k c cs (s ∷ ssrcs) (at i ∷ fs) = ap (λ (l : List Found). at i ∷ l) (settle_visit k c cs ssrcs fs)

settle_none : (k : ℕ) (ssrcs : List ℕ) (fs : List Found) → length fs ≡ length ssrcs → settle k [] ssrcs fs ≡ fs
unfolding settle first
settle_none k [] fs l = refl
settle_none k (s ∷ ssrcs) [] l = refl
settle_none k (s ∷ ssrcs) (none ∷ fs) l = ap (λ (x : List Found). none ∷ x) (settle_none k ssrcs fs (omega arith))
settle_none k (s ∷ ssrcs) (at i ∷ fs) l = ap (λ (x : List Found). at i ∷ x) (settle_none k ssrcs fs (omega arith))

settle_done : (k : ℕ) (cs : List Chunk) (ssrcs : List ℕ) (fs : List Found) → some missing fs ≡ false → settle k cs ssrcs fs ≡ fs
unfolding settle
settle_done k cs [] fs e = refl
settle_done k cs (s ∷ ssrcs) [] e = refl
settle_done k cs (s ∷ ssrcs) (none ∷ fs) e = absurd (true≢false e)
settle_done k cs (s ∷ ssrcs) (at i ∷ fs) e = ap (λ (x : List Found). at i ∷ x) (settle_done k cs ssrcs fs e)

settle_start : (cs : List Chunk) (ssrcs : List ℕ) → settle 0 cs ssrcs (nones ssrcs) ≡ found_in cs ssrcs
unfolding settle found_in
settle_start cs [] = refl
settle_start cs (s ∷ ssrcs) = cc (from_start (first (names s) cs), settle_start cs ssrcs)

pass_settles : (k : ℕ) (cs : List Chunk) (ssrcs : List ℕ) (fs : List Found) → length fs ≡ length ssrcs → (pass k cs ssrcs fs).0 ≡ settle k cs ssrcs fs
unfolding pass
pass_settles k [] ssrcs fs l = sym (settle_none k ssrcs fs l)
pass_settles k (c ∷ cs) ssrcs fs l = go (some missing fs) refl (pass_settles (suc k) cs ssrcs (visit k c ssrcs fs) (visit_length k c ssrcs fs l))
  where
    go : (t : Bool) → some missing fs ≡ t → (pass (suc k) cs ssrcs (visit k c ssrcs fs)).0 ≡ settle (suc k) cs ssrcs (visit k c ssrcs fs)
        → (pick t (pass (suc k) cs ssrcs (visit k c ssrcs fs)) (fs, k)).0 ≡ settle k (c ∷ cs) ssrcs fs
    go false e p = sym (settle_done k (c ∷ cs) ssrcs fs e)
    go true e p = p ∙ settle_visit k c cs ssrcs fs

-- one pass gives the answers
pub pass_finds : (cs : List Chunk) (ssrcs : List ℕ) → (pass 0 cs ssrcs (nones ssrcs)).0 ≡ found_in cs ssrcs
pass_finds cs ssrcs = pass_settles 0 cs ssrcs (nones ssrcs) (length-map ssrcs _) ∙ settle_start cs ssrcs

-- and visits no chunk twice
pub pass_most : (k : ℕ) (cs : List Chunk) (ssrcs : List ℕ) (fs : List Found) → (pass k cs ssrcs fs).1 ≤ k + length cs
unfolding pass
pass_most k [] ssrcs fs = omega arith
pass_most k (c ∷ cs) ssrcs fs = go (some missing fs) (pass_most (suc k) cs ssrcs (visit k c ssrcs fs))
  where
    go : (t : Bool) → (pass (suc k) cs ssrcs (visit k c ssrcs fs)).1 ≤ suc k + length cs → (pick t (pass (suc k) cs ssrcs (visit k c ssrcs fs)) (fs, k)).1 ≤ k + suc (length cs)
    go true h = omega arith
    go false h = omega arith

-- ---- the call

pub nth_map : {A B : Type 0} (f : A → B) (xs : List A) (i : ℕ) → nth i (map f xs) ≡ map_ok f (nth i xs)
unfolding map_ok
nth_map f [] i = refl
nth_map f (x ∷ xs) zero = refl
nth_map f (x ∷ xs) (suc i) = nth_map f xs i

pub lookup_short : (room : ℕ) (s ssrcs : List ℕ) → room < length ssrcs → lookup room s ssrcs ≡ refuse 31 0 0
unfolding lookup need ◌>>◌
lookup_short room s ssrcs h = rw (lt-leb (length ssrcs) room h)

pub lookup_packet : (room : ℕ) (s ssrcs : List ℕ) → length ssrcs ≤ room → lookup room s ssrcs ≡ map_ok (λ (p : Packet). found_in (chunks_of p.content) ssrcs) (read_as SDES s)
unfolding lookup need ◌>>◌ ◌>>=◌ map_ok
lookup_packet room s ssrcs h = rw (le-leb (length ssrcs) room h) (go (read_as SDES s))
  where
    go : (a : Answer Packet) → (a >>= λ (p : Packet). ok (found_in (chunks_of p.content) ssrcs)) ≡ map_ok (λ (p : Packet). found_in (chunks_of p.content) ssrcs) a
    go (ok p) = refl
    go (refused r) = refl

pub lookup_ok : (room : ℕ) (s ssrcs : List ℕ) {fs : List Found} → lookup room s ssrcs ≡ ok fs → (length ssrcs ≤ room) × ((p : Packet) × (read_as SDES s ≡ ok p) × (found_in (chunks_of p.content) ssrcs ≡ fs))
unfolding lookup
lookup_ok room s ssrcs e =
    let n = need_inv (leb (length ssrcs) room) 31 0 0 _ e in
    (leb-true (length ssrcs) room n.0, bind_elim (read_as SDES s) _ n.1 (λ p q r. (p, q, ok_injective r)))

pub found_length : (cs : List Chunk) (ssrcs : List ℕ) → length (map coded (found_in cs ssrcs)) ≡ length ssrcs
unfolding found_in
found_length cs ssrcs = length-map (found_in cs ssrcs) coded ∙ length-map ssrcs _

module _ (visits : ℕ) (s ssrcs l : List ℕ) where
  pub lookup_refused : (r : Refusal) → (lookup_with visits s ssrcs l).0 ≡ refused r → (lookup_with visits s ssrcs l).1 ≡ l
  unfolding lookup_with map_ok
  lookup_refused r = go (lookup (length l) s ssrcs)
    where
      go : (a : Answer (List Found)) → map_ok (λ (fs : List Found). visits) a ≡ refused r → answers_after a l ≡ l
      go (ok fs) e = absurd (refused≢ok (sym e))
      go (refused q) e = refl

  -- the answers first, then the buffer as it was
  left_by : (cs : List Chunk) (a : Answer (List Found)) → a ≡ ok (found_in cs ssrcs) → answers_after a l ≡ map coded (found_in cs ssrcs) ++ drop (length ssrcs) l
  left_by cs a e = rw e (store_front (map coded (found_in cs ssrcs)) l ∙ rw (found_length cs ssrcs))

  pub lookup_stays : drop (length ssrcs) (lookup_with visits s ssrcs l).1 ≡ drop (length ssrcs) l
  unfolding lookup_with
  lookup_stays = go (lookup (length l) s ssrcs) refl
    where
      go : (a : Answer (List Found)) → lookup (length l) s ssrcs ≡ a → drop (length ssrcs) (answers_after a l) ≡ drop (length ssrcs) l
      go (refused r) e = refl
      go (ok fs) e =
          let w = (lookup_ok (length l) s ssrcs e).1 in
          let cs = chunks_of w.0.content in
          ap (drop (length ssrcs)) (left_by cs (ok fs) (ap ok (sym w.2))) ∙ drop_at (map coded (found_in cs ssrcs)) (drop (length ssrcs) l) (length ssrcs) (found_length cs ssrcs)

  pub lookup_filled : {n : ℕ} → (lookup_with visits s ssrcs l).0 ≡ ok n
      → (p : Packet) × (read_as SDES s ≡ ok p) × (n ≡ visits) × (take (length ssrcs) (lookup_with visits s ssrcs l).1 ≡ map coded (found_in (chunks_of p.content) ssrcs))
  unfolding lookup_with
  lookup_filled e =
      let v = map_ok_inv (λ (fs : List Found). visits) (lookup (length l) s ssrcs) e in
      let w = (lookup_ok (length l) s ssrcs v.1).1 in
      let cs = chunks_of w.0.content in
      (w.0, w.1, sym v.2, ap (take (length ssrcs)) (left_by cs (lookup (length l) s ssrcs) (v.1 ∙ ap ok (sym w.2))) ∙ take_at (map coded (found_in cs ssrcs)) (drop (length ssrcs) l) (length ssrcs) (found_length cs ssrcs))

chunks_low : (c : Content) → length (chunks_of c) ≤ low_bits c
chunks_low (report r bs extension) = omega arith
chunks_low (sdes cs) = omega arith
chunks_low (bye ss l) = omega arith
chunks_low (app subtype ssrc name d) = omega arith
chunks_low (unknown t low b) = omega arith

-- the answers as they stand in the buffer
pub lookup_told : (visits : ℕ) (s ssrcs l : List ℕ) {n : ℕ} → Bytes s → (lookup_with visits s ssrcs l).0 ≡ ok n
    → (p : Packet) × (read_as SDES s ≡ ok p) × (n ≡ visits) × (map decoded (take (length ssrcs) (lookup_with visits s ssrcs l).1) ≡ found_in (chunks_of p.content) ssrcs)
lookup_told visits s ssrcs l h e =
    let w = lookup_filled visits s ssrcs l e in
    let cs = chunks_of w.0.content in
    let low = ((packet_iff SDES s w.0 h).0 w.1).0.low in
    (w.0, w.1, w.2, ap (map decoded) w.3 ∙ decoded_coded (length cs) (found_in cs ssrcs) (omega (arith, chunks_low w.0.content)) (found_below cs ssrcs))
