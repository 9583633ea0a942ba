-- The turns of the pass over the chunks of a body.
use Rattle.std.specs.Prelude.{Option, Some, is_some}
use Rattle.std.proofs.lemmas.Option.{same_Some}
use Rattle.rfc3550.proofs.Prelude.{ℕ, suc, ◌+◌, ◌-◌, ◌^◌, ◌<◌, ◌≤◌, ◌≡◌, refl, sym, ap, ◌∙◌, subst, Bool, true, false, ◌&&◌, ◌||◌, List, [], ◌∷◌, ◌++◌, map, add-one, arith, rules, ne_eqb, eqb, ltb, length, take, drop, replicate, length-drop, length-replicate, length-map, drop-drop, drop_at}
use Rattle.rfc3550.specs.Answer.{ok, map_ok, pick}
use Rattle.rfc3550.specs.Packet.{Chunk, chunk_bytes, chunk_has_cname, some}
use Rattle.rfc3550.specs.Read.{read_chunk, read_chunks}
use Rattle.rfc3550.specs.Lookup.{Found, none, at, found_in, coded}
use Rattle.rfc3550.proofs.Answers.{bind_elim, ok_injective, refused≢ok}
use Rattle.rfc3550.proofs.Bytes.{store_front}
use Rattle.rfc3550.proofs.Lookups.{reach, Below, missing, nones, visit, pass, pass_done, pass_more, visit_length, visit_below, nones_below, pass_finds, found_length}
use Rattle.utils.specs.Error.{value_in}
use Rattle.sdes_chunk.specs.declared.chunk.SdesChunk.{SdesChunk}
use Rattle.sdes_chunk.specs.Chunk.{chunk_view, chunk_first}
use Rattle.sdes_chunk.proofs.Answers.{rest_is}
use Rattle.sdes_chunk.proofs.Chunks.{chunk_cname}
use Rattle.sdes_chunk.proofs.Readings.{chunk_in}
use Rattle.sdes_lookup.specs.Lookup.{marked, unanswered_in, Answered}

coded_nones : (ssrcs : List ℕ) → map coded (nones ssrcs) ≡ replicate (length ssrcs) 255
coded_nones [] = refl
coded_nones (s ∷ ssrcs) = ap (λ (l : List ℕ). 255 ∷ l) (coded_nones ssrcs)

code_missing : (f : Found) (k : ℕ) → k ≤ 255 → reach f ≤ k → eqb (coded f) 255 ≡ missing f
code_missing none k h b = refl
code_missing (at i) k h b = ne_eqb i 255 (omega arith)

one_or : (a : Bool) (n : ℕ) → pick a 1 0 + n ≡ 0 → (a ≡ false) × (n ≡ 0)
one_or true n e = absurd (omega arith)
one_or false n e = (refl, omega arith)

pub none_unanswered : (k : ℕ) (fs : List Found) (r : List ℕ) → k ≤ 255 → Below k fs → unanswered_in (length fs) (map coded fs ++ r) ≡ 0 → some missing fs ≡ false
unfolding unanswered_in
none_unanswered k [] r h b e = refl
none_unanswered k (f ∷ fs) r h b e =
    let w = one_or (eqb (coded f) 255) (unanswered_in (length fs) (map coded fs ++ r)) e in
    rw (sym (code_missing f k h b.0) ∙ w.0, none_unanswered k fs r h b.1 w.1)

some_or : (a b : Bool) (n : ℕ) → (pick a 1 0 + n ≡ 0 → ⊥) → ((n ≡ 0 → ⊥) → b ≡ true) → (a || b) ≡ true
some_or true b n z f = refl
some_or false b n z f = f (λ e. z (omega arith))

pub some_unanswered : (k : ℕ) (fs : List Found) (r : List ℕ) → k ≤ 255 → Below k fs → (unanswered_in (length fs) (map coded fs ++ r) ≡ 0 → ⊥) → some missing fs ≡ true
unfolding unanswered_in
some_unanswered k [] r h b z = absurd (z refl)
some_unanswered k (f ∷ fs) r h b z =
    rw (← code_missing f k h b.0) (some_or (eqb (coded f) 255) (some missing fs) (unanswered_in (length fs) (map coded fs ++ r)) z (some_unanswered k fs r h b.1))

unanswered_nones : (ssrcs r : List ℕ) → unanswered_in (length ssrcs) (map coded (nones ssrcs) ++ r) ≡ length ssrcs
unfolding unanswered_in
unanswered_nones [] r = refl
unanswered_nones (s ∷ ssrcs) r = omega (arith, unanswered_nones ssrcs r)

-- a chunk without a CNAME answers nothing
visit_none : (k : ℕ) (c : Chunk) (ssrcs : List ℕ) (fs : List Found) → chunk_has_cname c ≡ false → visit k c ssrcs fs ≡ fs
unfolding visit
visit_none k c [] fs e = refl
visit_none k c (s ∷ ssrcs) [] e = refl
visit_none k c (s ∷ ssrcs) (none ∷ fs) e = cc (fails (eqb c.ssrc s), visit_none k c ssrcs fs e)
  where
    fails : (t : Bool) → pick (t && chunk_has_cname c) (at k) none ≡ none
    fails true = rw e
    fails false = refl
visit_none k c (s ∷ ssrcs) (at i ∷ fs) e = ap (λ (l : List Found). at i ∷ l) (visit_none k c ssrcs fs e)

-- one with a CNAME is marked
visit_marks : (m k : ℕ) (c : Chunk) (ssrcs : List ℕ) (fs : List Found) (r : List ℕ) → chunk_has_cname c ≡ true → m ≤ 255 → Below m fs → length fs ≡ length ssrcs
    → marked k c.ssrc ssrcs (map coded fs ++ r) ≡ map coded (visit k c ssrcs fs) ++ r
unfolding visit marked
visit_marks m k c [] [] r e h b l = refl
visit_marks m k c [] (f ∷ fs) r e h b l = absurd (omega arith)
visit_marks m k c (s ∷ ssrcs) [] r e h b l = absurd (omega arith)
visit_marks m k c (s ∷ ssrcs) (none ∷ fs) r e h b l = cc (one (eqb c.ssrc s), visit_marks m k c ssrcs fs r e h b.1 (omega arith))
  where
    one : (t : Bool) → pick (t && true) k 255 ≡ coded (pick (t && chunk_has_cname c) (at k) none)
    one true = rw e
    one false = refl
visit_marks m k c (s ∷ ssrcs) (at i ∷ fs) r e h b l = cc (one (eqb c.ssrc s), visit_marks m k c ssrcs fs r e h b.1 (omega arith))
  where
    one : (t : Bool) → pick (t && eqb i 255) k i ≡ i
    one true = rw (ne_eqb i 255 (omega (arith, b.0)))
    one false = refl

-- ---- the pass

pub record Passing (n : ℕ) (body ssrcs l₀ : List ℕ) (unanswered : ℕ) (s : List ℕ) (k : ℕ) (l : List ℕ) : Type 0 where
  pub chunks : List Chunk
  pub read : read_chunks n (length body) (drop 4 body) ≡ ok chunks
  pub left : List Chunk
  pub rest : read_chunks (n - k) (length body) s ≡ ok left
  pub found : List Found
  pub below : Below k found
  pub count : length found ≡ length ssrcs
  pub is : l ≡ map coded found ++ drop (length ssrcs) l₀
  pub long : length l ≡ length l₀
  pub within : k ≤ n
  pub low : n < 32
  pub fits : length ssrcs ≤ length l
  pub counted : unanswered ≡ unanswered_in (length ssrcs) l
  -- the exact number of visits goes with the answers
  pub same : pass 0 chunks ssrcs (nones ssrcs) ≡ pass k left ssrcs found

module _ (ssrcs l l₁ : List ℕ) (e : l₁ ≡ replicate (length ssrcs) 255 ++ drop (length ssrcs) l) where
  blank_rest : drop (length ssrcs) l₁ ≡ drop (length ssrcs) l
  blank_rest = ap (drop (length ssrcs)) e ∙ drop_at (replicate (length ssrcs) 255) (drop (length ssrcs) l) (length ssrcs) (length-replicate (length ssrcs) 255)

  pub pass_start : (n : ℕ) (body : List ℕ) → n < 32 → length ssrcs ≤ length l → ((cs : List Chunk) × (read_chunks n (length body) (drop 4 body) ≡ ok cs)) → length l₁ ≡ length l
      → Passing n body ssrcs l₁ (length ssrcs) (take (length body - 4) (drop 4 body)) 0 l₁
  pass_start n body m h c s =
      let z : n - 0 ≡ n = omega arith in
      let w : l₁ ≡ map coded (nones ssrcs) ++ drop (length ssrcs) l₁ = cc (e, coded_nones ssrcs, blank_rest) in
      record {
        chunks = c.0;
        read = c.1;
        left = c.0;
        rest = rw (z, rest_is body 4) c.1;
        found = nones ssrcs;
        below = nones_below ssrcs;
        count = length-map ssrcs _;
        is = w;
        long = refl;
        within = omega arith;
        low = m;
        fits = omega arith;
        counted = sym (ap (unanswered_in (length ssrcs)) w ∙ unanswered_nones ssrcs (drop (length ssrcs) l₁));
        same = refl;
      }

module _ (n : ℕ) (body ssrcs l₀ : List ℕ) (unanswered : ℕ) (s : List ℕ) (k : ℕ) (l : List ℕ) (g : Passing n body ssrcs l₀ unanswered s k l) where
  pub pass_long : length l ≡ length l₀
  pass_long = g.long

  opened : unanswered_in (length g.found) (map coded g.found ++ drop (length ssrcs) l₀) ≡ unanswered
  opened = rw (g.count, ← g.is) (sym g.counted)

  -- the answers so far are all, where the pass ends here
  ends : (lent : List ℕ) → l₀ ≡ replicate (length ssrcs) 255 ++ drop (length ssrcs) lent → pass k g.left ssrcs g.found ≡ (g.found, k) → Answered n body ssrcs lent k l
  ends lent b e =
      let w : pass 0 g.chunks ssrcs (nones ssrcs) ≡ (g.found, k) = g.same ∙ e in
      let f : g.found ≡ found_in g.chunks ssrcs = sym (ap (λ (x : List Found × ℕ). x.0) w) ∙ pass_finds g.chunks ssrcs in
      record {
        chunks = g.chunks;
        read = g.read;
        most = g.within;
        laid =
            g.is ∙ ap (λ (r : List ℕ). map coded g.found ++ r) (blank_rest ssrcs lent l₀ b) ∙ ap (λ (fs : List Found). map coded fs ++ drop (length ssrcs) lent) f
            ∙ sym (store_front (map coded (found_in g.chunks ssrcs)) lent ∙ rw (found_length g.chunks ssrcs));
      }

  pub pass_answered : (lent : List ℕ) → l₀ ≡ replicate (length ssrcs) 255 ++ drop (length ssrcs) lent → unanswered ≡ 0 → Answered n body ssrcs lent k l
  pass_answered lent b e =
      ends lent b (pass_done k g.left ssrcs g.found (none_unanswered k g.found (drop (length ssrcs) l₀) (omega (arith, g.within, g.low)) g.below (opened ∙ e)))

  pub pass_ended : (lent : List ℕ) → l₀ ≡ replicate (length ssrcs) 255 ++ drop (length ssrcs) lent → n ≤ k → Answered n body ssrcs lent n l
  unfolding read_chunks pass
  pass_ended lent b h =
      let e : k ≡ n = omega (arith, g.within) in
      let z : n - k ≡ 0 = omega arith in
      subst (λ (v : ℕ). Answered n body ssrcs lent v l) e (ends lent b (go s g.left (rw z at g.rest)))
    where
      go : (s : List ℕ) (cs : List Chunk) → read_chunks 0 (length body) s ≡ ok cs → pass k cs ssrcs g.found ≡ (g.found, k)
      go [] cs e = rw (sym (ok_injective e))
      go (b ∷ s) cs e = absurd (refused≢ok e)

  module _ (h : k < n) where
    pub pass_low : k < 255
    pass_low = omega (arith, g.low)

    -- the chunk here, and those after it
    record Here : Type 0 where
      pub chunk : Chunk
      pub others : List Chunk
      pub view : Some (chunk_view chunk) ≡ value_in (map_ok chunk_first (read_chunk s))
      pub are : g.left ≡ chunk ∷ others
      pub rest : read_chunks (n - (k + 1)) (length body) (drop (length (chunk_bytes chunk)) s) ≡ ok others
      pub inside : length (chunk_bytes chunk) ≤ length s

    here : Here
    unfolding read_chunks map_ok
    here =
        let z : n - k ≡ suc (n - (k + 1)) = omega arith in
        bind_elim (read_chunk s) _ (rw z at g.rest) (λ x q e.
        bind_elim (read_chunks (n - (k + 1)) (length body) x.1) _ e (λ cs r f.
        let c = chunk_in s q in
        record {
          chunk = x.0;
          others = cs;
          view = rw q;
          are = sym (ok_injective f);
          rest = rw (← c.rest) r;
          inside = omega (arith, c.size);
        }))

    module _ (o : Option SdesChunk) (q : o ≡ value_in (map_ok chunk_first (read_chunk s))) where
      pub pass_some : is_some o ≡ true
      pass_some = ap is_some (q ∙ sym here.view)

      module _ (c : SdesChunk) (v : o ≡ Some c) where
        is_here : c ≡ chunk_view here.chunk
        is_here = same_Some c (chunk_view here.chunk) (sym v ∙ q ∙ sym here.view)

        size_here : c.length ≡ length (chunk_bytes here.chunk)
        size_here = ap (λ (c : SdesChunk). c.length) is_here

        pub pass_inside : c.length ≤ length s
        pass_inside = rw size_here here.inside

        pub pass_again : (unanswered ≡ 0 → ⊥) → (u : ℕ) (l₁ : List ℕ) → l₁ ≡ pick (ltb 0 c.cname) (marked k c.ssrc ssrcs l) l → u ≡ unanswered_in (length ssrcs) l₁ → length l₁ ≡ length l
            → Passing n body ssrcs l₀ u (take (length s - c.length) (drop c.length s)) (k + 1) l₁
        pass_again y u l₁ e w eq =
            let m : some missing g.found ≡ true = some_unanswered k g.found (drop (length ssrcs) l₀) (omega (arith, g.low)) g.below (λ z. y (sym opened ∙ z)) in
            record {
              chunks = g.chunks;
              read = g.read;
              left = here.others;
              rest = rw (rest_is s c.length, size_here) here.rest;
              found = visit k here.chunk ssrcs g.found;
              below = subst (λ (m : ℕ). Below m (visit k here.chunk ssrcs g.found)) (sym (add-one k)) (visit_below k here.chunk ssrcs g.found g.below);
              count = visit_length k here.chunk ssrcs g.found g.count;
              is = laid (chunk_has_cname here.chunk) refl;
              long = eq ∙ g.long;
              within = omega arith;
              low = g.low;
              fits = omega (arith, g.fits);
              counted = w;
              same =
                  g.same ∙ ap (λ (cs : List Chunk). pass k cs ssrcs g.found) here.are ∙ pass_more k here.chunk here.others ssrcs g.found m
                  ∙ ap (λ (m : ℕ). pass m here.others ssrcs (visit k here.chunk ssrcs g.found)) (sym (add-one k));
            }
          where
            named : ltb 0 c.cname ≡ chunk_has_cname here.chunk
            named = ap (λ (c : SdesChunk). ltb 0 c.cname) is_here ∙ chunk_cname here.chunk

            laid : (t : Bool) → chunk_has_cname here.chunk ≡ t → l₁ ≡ map coded (visit k here.chunk ssrcs g.found) ++ drop (length ssrcs) l₀
            laid true x =
                e ∙ ap (λ (b : Bool). pick b (marked k c.ssrc ssrcs l) l) (named ∙ x)
                ∙ ap (λ (c : SdesChunk). marked k c.ssrc ssrcs l) is_here ∙ ap (marked k here.chunk.ssrc ssrcs) g.is
                ∙ visit_marks k k here.chunk ssrcs g.found (drop (length ssrcs) l₀) x (omega (arith, g.low)) g.below g.count
            laid false x =
                e ∙ ap (λ (b : Bool). pick b (marked k c.ssrc ssrcs l) l) (named ∙ x)
                ∙ g.is ∙ ap (λ (fs : List Found). map coded fs ++ drop (length ssrcs) l₀) (sym (visit_none k here.chunk ssrcs g.found x))

pub ruleset passes = (rules, pass_start, pass_long, pass_some, pass_inside, pass_answered, pass_ended, pass_low, pass_again)
