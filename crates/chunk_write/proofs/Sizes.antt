-- The cases of the lists' sums, of the sizes of items and chunks in numbers, and of why there is none; and that the numbers are the definition's.
use Rattle.std.specs.Prelude.{Option, None, Some, is_none}
use Rattle.rfc3550.proofs.Prelude.{ℕ, zero, suc, ◌+◌, ◌-◌, ◌*◌, ◌%◌, ◌<◌, ◌≤◌, ◌^◌, ◌≡◌, refl, sym, ap, ◌∙◌, Bool, true, false, ◌&&◌, List, [], ◌∷◌, ◌++◌, sub-zero, add-zero, add-sub_cancel_left, add-one, arith, le-leb, lt-leb, leb-true, leb-false, eq-eqb, ne_eqb, eqb-true, eqb-false, ltb-true, ltb-false, not-true, not-false, length, take, drop, get_or, length-append, length-take, length-drop, length-replicate, drop_of_length-le, take-append-drop, drop-cons, drop-drop, get_or-drop, length-take-le, take_all, leb, ltb, eqb}
use Rattle.rfc3550.specs.Answer.{Refusal, Answer, ok, refused, refusal, ◌>>◌, ◌>>=◌, map_ok, pick}
use Rattle.rfc3550.specs.Bytes.{sum}
use Rattle.rfc3550.specs.Packet.{item_bytes, items_bytes, chunk_bytes, chunks_bytes}
use Rattle.rfc3550.specs.Write.{LentItem, lent_items, lent_chunks, item_given, items_given, chunk_given, chunks_given, item_tests, items_tests, items_agree, item_size}
use Rattle.rfc3550.proofs.Answers.{then_assoc, and_inv, bind_elim, ok_injective}
use Rattle.rfc3550.proofs.Bytes.{length_be}
use Rattle.utils.specs.Error.{value_in}
use Rattle.utils.proofs.Values.{value_is, none_refused, values}
use Rattle.chunk_write.specs.Sizes.{lent, size_of, SameLengths, too_large, items_refused, sizes_of, boundary_above, chunks_from, ends_at, at_most, items_end, chunks_end, ItemsMeasured, ChunksMeasured}
use Rattle.chunk_write.specs.Lists.{items_end_in, FirstItems, laid_items, laid_chunks}
use Rattle.chunk_write.specs.declared.chunks.ItemLists.{ItemLists}
use Rattle.chunk_write.specs.declared.chunks.ItemsEnd.{ItemsEnd}
use Rattle.chunk_write.proofs.Items.{size_known, item_is_lem}

-- ---- sums

pub sum_next : (xs : List ℕ) (i : ℕ) → i < length xs → sum (drop i xs) ≡ get_or xs i 0 + sum (drop (i + 1) xs)
unfolding sum
sum_next xs i h = rw (drop-cons xs i 0 h, add-one)

pub record Summing (xs : List ℕ) (total i left : ℕ) : Type 0 where
  pub is : left + sum xs ≡ total + sum (drop i xs)

module _ (xs : List ℕ) (total : ℕ) where
  pub summing_start : Summing xs total 0 total
  summing_start = record { is = refl }

  module _ (i left : ℕ) (w : Summing xs total i left) where
    pub summing_over : i < length xs → (get_or xs i 0 ≤ left → ⊥) → total < sum xs
    summing_over h f = let a = sum_next xs i h in let z = w.is in omega arith

    pub summing_again : i < length xs → (n : ℕ) → (get_or xs i 0 ≤ left) × (n ≡ left - get_or xs i 0) → Summing xs total (i + 1) n
    summing_again h n f = let a = sum_next xs i h in let z = w.is in record { is = omega arith }

    pub summing_done : length xs ≤ i → left + sum xs ≡ total
    unfolding sum
    summing_done h =
        let d : drop i xs ≡ [] = drop_of_length-le xs {i = i} h in
        let z : left + sum xs ≡ total + 0 = rw d at w.is in
        omega arith

-- ---- 24

module _ (ts ps vs bs : List ℕ) where
  pub prefixes_other : (length ts ≡ length ps → ⊥) → false ≡ items_agree ts ps vs bs
  prefixes_other h = simp (ne_eqb _ _ h)

  module _ (h : length ts ≡ length ps) where
    pub values_other : (length ts ≡ length vs → ⊥) → false ≡ items_agree ts ps vs bs
    values_other f = simp (eq-eqb _ _ h, ne_eqb _ _ f)

    pub sums_agree : length ts ≡ length vs → (t : Bool) → t ≡ eqb (sum ps + sum vs) (length bs) → t ≡ items_agree ts ps vs bs
    sums_agree f t e = e ∙ simp (eq-eqb _ _ h, eq-eqb _ _ f)

-- what lists that agree say
pub record Agreed (ts ps vs bs : List ℕ) : Type 0 where
  pub prefixes : length ps ≡ length ts
  pub values : length vs ≡ length ts
  pub bytes : sum ps + sum vs ≡ length bs

pub agreed : (ts ps vs bs : List ℕ) (t : Bool) → t ≡ items_agree ts ps vs bs → t ≡ true → Agreed ts ps vs bs
agreed ts ps vs bs t e q =
    let a = and_inv (eqb (length ts) (length ps) && eqb (length ts) (length vs)) (eqb (sum ps + sum vs) (length bs)) (sym e ∙ q) in
    let b = and_inv (eqb (length ts) (length ps)) (eqb (length ts) (length vs)) a.0 in
    record { prefixes = sym (eqb-true _ _ b.0); values = sym (eqb-true _ _ b.1); bytes = eqb-true _ _ a.1 }

pub agreed_listed : (ts ps vs bs : List ℕ) (t : Bool) → t ≡ items_agree ts ps vs bs → t ≡ true → SameLengths ts ps vs
agreed_listed ts ps vs bs t e q = let a = agreed ts ps vs bs t e q in record { prefixes = a.prefixes; values = a.values }

-- ---- why an item is refused

refused_next : (i : ℕ) (ts ps vs : List ℕ) → i < length ts
    → items_refused (drop i ts) (drop i ps) (drop i vs)
    ≡ (size_of (get_or ts i 0) (get_or ps i 0) (get_or vs i 0) >>= (λ (n : ℕ). items_refused (drop (i + 1) ts) (drop (i + 1) ps) (drop (i + 1) vs)))
unfolding items_refused
refused_next i ts ps vs h = rw (drop-cons ts i 0 h) (simp (get_or-drop, add-zero, drop-drop, add-one))

pub record Asking (ts ps vs : List ℕ) (i : ℕ) : Type 0 where
  pub rest : items_refused (drop i ts) (drop i ps) (drop i vs) ≡ items_refused ts ps vs

module _ (ts ps vs : List ℕ) where
  pub asking_start : Asking ts ps vs 0
  asking_start = record { rest = refl }

  module _ (i : ℕ) (w : Asking ts ps vs i) where
    module _ (h : i < length ts) where
      step : (m : Answer ℕ) → size_of (get_or ts i 0) (get_or ps i 0) (get_or vs i 0) ≡ m
          → (m >>= (λ (n : ℕ). items_refused (drop (i + 1) ts) (drop (i + 1) ps) (drop (i + 1) vs))) ≡ items_refused ts ps vs
      step m e = rw e at (sym (refused_next i ts ps vs h) ∙ w.rest)

      pub asking_told : (k : Refusal) → refused k ≡ size_of (get_or ts i 0) (get_or ps i 0) (get_or vs i 0) → refused k ≡ items_refused ts ps vs
      unfolding ◌>>=◌
      asking_told k q = step (refused k) (sym q)

      pub asking_again : (o : Option ℕ) → o ≡ value_in (size_of (get_or ts i 0) (get_or ps i 0) (get_or vs i 0)) → is_none o ≡ false → Asking ts ps vs (i + 1)
      unfolding ◌>>=◌
      asking_again None e z = cc
      asking_again (Some n) e z = record { rest = step (ok n) (sym (value_is _ n e)) }

    pub asking_done : length ts ≤ i → refused (refusal 22 0 0) ≡ items_refused ts ps vs
    unfolding items_refused
    asking_done h = let z : drop i ts ≡ [] = drop_of_length-le ts {i = i} h in rw z at w.rest

-- ---- the sizes are those of the lent items and chunks

size_then : (a b : Answer (Unit {0})) (x y z : ℕ) (f : ℕ → Answer ℕ) → f x ≡ (b >> ok y) → y ≡ z → ((a >> ok x) >>= f) ≡ ((a >> b) >> ok z)
unfolding ◌>>◌ ◌>>=◌
size_then (refused r) b x y z f e q = refl
size_then (ok u) b x y z f e q = e ∙ ap (λ (k : ℕ). b >> ok k) q

pub sizes_are : (n : ℕ) (ts ps vs bs : List ℕ) → length ps ≡ length ts → length vs ≡ length ts → sum ps + sum vs ≤ length bs
    → sizes_of n ts ps vs ≡ (items_tests (lent_items ts ps vs bs) >> ok (n + length (laid_items ts ps vs bs)))
unfolding sizes_of lent_items item_size items_tests items_given items_bytes sum ◌>>◌ ◌>>=◌
sizes_are n [] ps vs bs ep ev h = rw add-zero
sizes_are n (t ∷ ts) [] vs bs ep ev h = absurd (omega arith)
sizes_are n (t ∷ ts) (p ∷ ps) [] bs ep ev h = absurd (omega arith)
sizes_are n (t ∷ ts) (p ∷ ps) (v ∷ vs) bs ep ev h =
    let i : LentItem = lent t (take p bs) (take v (drop p bs)) in
    let a : length (take p bs) ≡ p = length-take-le p bs (omega arith) in
    let b : length (take v (drop p bs)) ≡ v = length-take-le v (drop p bs) (rw length-drop (omega arith)) in
    let s : size_of t p v ≡ item_size i = sym (item_is_lem t (take p bs) (take v (drop p bs)) ∙ rw (a, b)) in
    let k : ℕ = length (item_bytes (item_given i)) in
    let ih = sizes_are (n + k) ts ps vs (drop (p + v) bs) (omega arith) (omega arith) (rw length-drop (omega arith)) in
    let q : n + length (item_bytes (item_given i)) + length (laid_items ts ps vs (drop (p + v) bs)) ≡ n + length (item_bytes (item_given i) ++ laid_items ts ps vs (drop (p + v) bs)) =
    omega (arith, length-append (item_bytes (item_given i)) (laid_items ts ps vs (drop (p + v) bs))) in
    rw s (size_then (item_tests i) (items_tests (lent_items ts ps vs (drop (p + v) bs))) _ _ _ (λ (m : ℕ). sizes_of (n + m) ts ps vs) ih q)

pub sum_split : (c : ℕ) (xs : List ℕ) → sum xs ≡ sum (take c xs) + sum (drop c xs)
unfolding sum
sum_split zero xs = omega arith
sum_split (suc c) [] = refl
sum_split (suc c) (x ∷ xs) = rw (sum_split c xs) (omega arith)

-- the first c items are those of the lists' first parts, and so of the rest
pub items_take : (c : ℕ) (ts ps vs bs : List ℕ) → length ps ≡ length ts → length vs ≡ length ts → take c (lent_items ts ps vs bs) ≡ lent_items (take c ts) (take c ps) (take c vs) bs
unfolding lent_items
items_take zero ts ps vs bs ep ev = refl
items_take (suc c) [] ps vs bs ep ev = refl
items_take (suc c) (t ∷ ts) [] vs bs ep ev = absurd (omega arith)
items_take (suc c) (t ∷ ts) (p ∷ ps) [] bs ep ev = absurd (omega arith)
items_take (suc c) (t ∷ ts) (p ∷ ps) (v ∷ vs) bs ep ev = rw (items_take c ts ps vs (drop (p + v) bs) (omega arith) (omega arith))

pub items_drop : (c : ℕ) (ts ps vs bs : List ℕ) → length ps ≡ length ts → length vs ≡ length ts
    → drop c (lent_items ts ps vs bs) ≡ lent_items (drop c ts) (drop c ps) (drop c vs) (drop (sum (take c ps) + sum (take c vs)) bs)
unfolding lent_items sum
items_drop zero ts ps vs bs ep ev = refl
items_drop (suc c) [] ps vs bs ep ev = refl
items_drop (suc c) (t ∷ ts) [] vs bs ep ev = absurd (omega arith)
items_drop (suc c) (t ∷ ts) (p ∷ ps) [] bs ep ev = absurd (omega arith)
items_drop (suc c) (t ∷ ts) (p ∷ ps) (v ∷ vs) bs ep ev =
    items_drop c ts ps vs (drop (p + v) bs) (omega arith) (omega arith)
    ∙ ap (λ (z : List ℕ). lent_items (drop c ts) (drop c ps) (drop c vs) z) (drop-drop (sum (take c ps) + sum (take c vs)) (p + v) bs ∙ ap (λ (k : ℕ). drop k bs) (rest p v (sum (take c ps)) (sum (take c vs))))
  where
    rest : (p v x y : ℕ) → p + v + (x + y) ≡ p + x + (v + y)
    rest p v x y = omega arith

tests_append : (a b : List LentItem) → items_tests (a ++ b) ≡ (items_tests a >> items_tests b)
unfolding items_tests ◌>>◌
tests_append [] b = refl
tests_append (i ∷ is) b = rw (tests_append is b) (then_assoc (item_tests i) (items_tests is) (items_tests b))

pub tests_split : (c : ℕ) (is : List LentItem) → items_tests is ≡ (items_tests (take c is) >> items_tests (drop c is))
tests_split c is = sym (ap items_tests (take-append-drop c is)) ∙ tests_append (take c is) (drop c is)

pub length_chunk_of : (s : ℕ) (is : List LentItem) → length (chunk_bytes (chunk_given (record { ssrc = s; items = is }))) ≡ boundary_above (4 + length (items_bytes (items_given is)))
unfolding chunk_bytes
length_chunk_of s is = simp (length-append, length_be, length-replicate) (omega arith)

chunk_then : (a b : Answer (Unit {0})) (x y z : ℕ) (f : ℕ → Answer ℕ) → f (boundary_above x) ≡ (b >> ok y) → y ≡ z → (map_ok boundary_above (a >> ok x) >>= f) ≡ ((a >> b) >> ok z)
unfolding ◌>>◌ ◌>>=◌ map_ok
chunk_then (refused r) b x y z f e q = refl
chunk_then (ok u) b x y z f e q = e ∙ ap (λ (k : ℕ). b >> ok k) q

-- the sizes are those of the lent chunks
pub chunks_are : (n : ℕ) (ss cs ts ps vs bs : List ℕ) → n % 4 ≡ 0 → length cs ≡ length ss → sum cs ≡ length ts → length ps ≡ length ts → length vs ≡ length ts → sum ps + sum vs ≤ length bs
    → chunks_from n cs ts ps vs ≡ (items_tests (lent_items ts ps vs bs) >> ok (n + length (laid_chunks ss cs ts ps vs bs)))
unfolding chunks_from lent_items lent_chunks items_tests chunks_given chunks_bytes sum ◌>>◌
chunks_are n [] [] [] ps vs bs d ec es ep ev h = rw add-zero
chunks_are n [] [] (t ∷ ts) ps vs bs d ec es ep ev h = absurd (omega arith)
chunks_are n [] (c ∷ cs) ts ps vs bs d ec es ep ev h = absurd (omega arith)
chunks_are n (s ∷ ss) [] ts ps vs bs d ec es ep ev h = absurd (omega arith)
chunks_are n (s ∷ ss) (c ∷ cs) ts ps vs bs d ec es ep ev h =
    let is : List LentItem = lent_items ts ps vs bs in
    let a = sum_split c ps in
    let b = sum_split c vs in
    let it = items_take c ts ps vs bs ep ev in
    let id = items_drop c ts ps vs bs ep ev in
    let x : ℕ = n + 4 + length (items_bytes (items_given (take c (lent_items ts ps vs bs)))) in
    let sz : sizes_of (n + 4) (take c ts) (take c ps) (take c vs) ≡ (items_tests (take c (lent_items ts ps vs bs)) >> ok (n + 4 + length (items_bytes (items_given (take c (lent_items ts ps vs bs)))))) =
    rw it (sizes_are (n + 4) (take c ts) (take c ps) (take c vs) bs (simp (length-take, ep)) (simp (length-take, ev)) (omega arith)) in
    let lt : length (drop c ts) ≡ length ts - c = length-drop c ts in
    let ih : chunks_from (boundary_above (n + 4 + length (items_bytes (items_given (take c (lent_items ts ps vs bs)))))) cs (drop c ts) (drop c ps) (drop c vs)
    ≡ (items_tests (drop c (lent_items ts ps vs bs)) >> ok (boundary_above (n + 4 + length (items_bytes (items_given (take c (lent_items ts ps vs bs))))) + length (chunks_bytes (chunks_given (lent_chunks ss cs (drop c (lent_items ts ps vs bs))))))) =
    rw id (chunks_are (boundary_above (n + 4 + length (items_bytes (items_given (take c (lent_items ts ps vs bs)))))) ss cs (drop c ts) (drop c ps) (drop c vs) (drop (sum (take c ps) + sum (take c vs)) bs)
    (omega arith) (omega arith) (omega arith) (simp (length-drop, ep)) (simp (length-drop, ev)) (rw length-drop (omega arith))) in
    let k = length_chunk_of s (take c (lent_items ts ps vs bs)) in
    let m = length-append (chunk_bytes (chunk_given (record { ssrc = s; items = take c (lent_items ts ps vs bs) }))) (chunks_bytes (chunks_given (lent_chunks ss cs (drop c (lent_items ts ps vs bs))))) in
    let q : boundary_above (n + 4 + length (items_bytes (items_given (take c (lent_items ts ps vs bs))))) + length (chunks_bytes (chunks_given (lent_chunks ss cs (drop c (lent_items ts ps vs bs)))))
    ≡ n + length (chunk_bytes (chunk_given (record { ssrc = s; items = take c (lent_items ts ps vs bs) })) ++ chunks_bytes (chunks_given (lent_chunks ss cs (drop c (lent_items ts ps vs bs))))) = omega arith in
    rw (sz, tests_split c (lent_items ts ps vs bs)) (chunk_then (items_tests (take c (lent_items ts ps vs bs))) (items_tests (drop c (lent_items ts ps vs bs))) _ _ _ (λ (e : ℕ). chunks_from e cs (drop c ts) (drop c ps) (drop c vs)) ih q)

refused_is : (n : ℕ) (ts ps vs : List ℕ) → items_refused ts ps vs ≡ (sizes_of n ts ps vs >>= (λ (m : ℕ). too_large))
unfolding items_refused sizes_of ◌>>=◌
refused_is n [] ps vs = refl
refused_is n (t ∷ ts) ps vs = go (size_of t (get_or ps 0 0) (get_or vs 0 0)) (λ k. refused_is (n + k) ts (drop 1 ps) (drop 1 vs))
  where
    go : (m : Answer ℕ) → ((k : ℕ) → items_refused ts (drop 1 ps) (drop 1 vs) ≡ (sizes_of (n + k) ts (drop 1 ps) (drop 1 vs) >>= (λ (x : ℕ). too_large)))
        → (m >>= (λ (x : ℕ). items_refused ts (drop 1 ps) (drop 1 vs))) ≡ ((m >>= (λ (k : ℕ). sizes_of (n + k) ts (drop 1 ps) (drop 1 vs))) >>= (λ (x : ℕ). too_large))
    go (refused r) ih = refl
    go (ok k) ih = ih k

-- 23, 21, 20 of lists that agree, or else 22
pub refusal_of : (ts ps vs bs : List ℕ) → length ps ≡ length ts → length vs ≡ length ts → sum ps + sum vs ≤ length bs → items_refused ts ps vs ≡ (items_tests (lent_items ts ps vs bs) >> too_large)
unfolding ◌>>◌ ◌>>=◌
refusal_of ts ps vs bs ep ev h = refused_is 0 ts ps vs ∙ rw (sizes_are 0 ts ps vs bs ep ev h) (go (0 + length (laid_items ts ps vs bs)) (items_tests (lent_items ts ps vs bs)))
  where
    go : (x : ℕ) (m : Answer (Unit {0})) → ((m >> ok x) >>= (λ (k : ℕ). too_large)) ≡ (m >> too_large)
    go x (ok u) = refl
    go x (refused r) = refl

-- ---- the end of items

none : {A : Type 0} (b : Bool) (x : A) → pick b x x ≡ x
none true x = refl
none false x = refl

and_none : (b : Bool) → b && false ≡ false
and_none true = refl
and_none false = refl

some_injective : {A : Type 0} (a b : A) → Some a ≡ Some b → a ≡ b
some_injective a b e = cc

eqb_same : (a b c d : ℕ) → (a ≡ b → c ≡ d) → (c ≡ d → a ≡ b) → eqb a b ≡ eqb c d
eqb_same a b c d f g = go (eqb a b) refl
  where
    go : (x : Bool) → eqb a b ≡ x → x ≡ eqb c d
    go true q = sym (eq-eqb c d (f (eqb-true _ _ q)))
    go false q = sym (ne_eqb c d (λ e. eqb-false _ _ q (g e)))

leb_same : (a b c d : ℕ) → (a ≤ b → c ≤ d) → (c ≤ d → a ≤ b) → leb a b ≡ leb c d
leb_same a b c d f g = go (leb a b) refl
  where
    go : (x : Bool) → leb a b ≡ x → x ≡ leb c d
    go true q = sym (le-leb c d (f (leb-true _ _ q)))
    go false q = let h : b < a = leb-false _ _ q in sym (lt-leb c d (either (ltb d c) refl h))
      where
        either : (y : Bool) → ltb d c ≡ y → b < a → d < c
        either true e h = ltb-true _ _ e
        either false e h = let k : c ≤ d = ltb-false _ _ e in absurd (omega (arith, g k))

sizes_most : (n : ℕ) (ts ps vs : List ℕ) (m : ℕ) → length ps ≡ length ts → length vs ≡ length ts → sizes_of n ts ps vs ≡ ok m → m ≤ n + 3 * length ts + (sum ps + sum vs)
unfolding sizes_of sum
sizes_most n [] ps vs m ep ev e = let z : n ≡ m = ok_injective e in omega arith
sizes_most n (t ∷ ts) [] vs m ep ev e = absurd (omega arith)
sizes_most n (t ∷ ts) (p ∷ ps) [] m ep ev e = absurd (omega arith)
sizes_most n (t ∷ ts) (p ∷ ps) (v ∷ vs) m ep ev e =
    bind_elim (size_of t p v) _ e (λ s q e₁. let k = (size_known t p v s q).most in let ih = sizes_most (n + s) ts ps vs m (omega arith) (omega arith) e₁ in omega arith)

module _ (at left t p v : ℕ) (ts ps vs : List ℕ) where
  end_none : value_in (size_of t p v) ≡ None → None ≡ items_end at left (t ∷ ts) (p ∷ ps) (v ∷ vs)
  unfolding items_end sizes_of sum map_ok ◌>>=◌
  end_none h = let e = (none_refused _ h).1 in rw e (sym (none (leb (p + sum ps + (v + sum vs)) left) None))

  end_over : left < p + v → None ≡ items_end at left (t ∷ ts) (p ∷ ps) (v ∷ vs)
  unfolding items_end sum
  end_over h = let b : leb (p + sum ps + (v + sum vs)) left ≡ false = lt-leb _ _ (omega arith) in rw b

  end_next : (n : ℕ) → size_of t p v ≡ ok n → p ≤ left → v ≤ left - p → items_end (at + n) (left - p - v) ts ps vs ≡ items_end at left (t ∷ ts) (p ∷ ps) (v ∷ vs)
  unfolding items_end sizes_of sum ◌>>=◌
  end_next n e f g =
      let d : leb (sum ps + sum vs) (left - p - v) ≡ leb (p + sum ps + (v + sum vs)) left = leb_same (sum ps + sum vs) (left - p - v) (p + sum ps + (v + sum vs)) left (λ h. omega arith) (λ h. omega arith) in
      let y : left - p - v - (sum ps + sum vs) ≡ left - (p + sum ps + (v + sum vs)) = omega arith in
      rw (e, d, y)

pub record Ending (at₀ left₀ : ℕ) (ts ps vs : List ℕ) (i end left : ℕ) : Type 0 where
  pub most : i ≤ length ts
  pub rest : items_end end left (drop i ts) (drop i ps) (drop i vs) ≡ items_end at₀ left₀ ts ps vs
  pub room : end + left + 3 * (length ts - i) ≤ at₀ + left₀ + 3 * length ts

module _ (at₀ left₀ : ℕ) (ts ps vs : List ℕ) (f : ItemsMeasured at₀ left₀ ts ps vs) where
  pub ending_start : Ending at₀ left₀ ts ps vs 0 at₀ left₀
  ending_start = record { most = omega arith; rest = refl; room = omega arith }

  module _ (i end left : ℕ) (w : Ending at₀ left₀ ts ps vs i end left) where
    module _ (h : i < length ts) where
      here : items_end end left (get_or ts i 0 ∷ drop (i + 1) ts) (get_or ps i 0 ∷ drop (i + 1) ps) (get_or vs i 0 ∷ drop (i + 1) vs) ≡ items_end at₀ left₀ ts ps vs
      here =
          let p = drop-cons ps i 0 (omega (arith, f.listed.prefixes)) in
          let v = drop-cons vs i 0 (omega (arith, f.listed.values)) in
          rw add-one (rw (drop-cons ts i 0 h, p, v) at w.rest)

      pub ending_refused : None ≡ value_in (size_of (get_or ts i 0) (get_or ps i 0) (get_or vs i 0)) → None ≡ items_end at₀ left₀ ts ps vs
      ending_refused z = end_none end left _ _ _ _ _ _ (sym z) ∙ here

      pub ending_over : (get_or ps i 0 ≤ left → ⊥) → None ≡ items_end at₀ left₀ ts ps vs
      ending_over g = end_over end left _ _ _ _ _ _ (omega arith) ∙ here

      module _ (l : ℕ) (g : (get_or ps i 0 ≤ left) × (l ≡ left - get_or ps i 0)) where
        pub ending_over_value : (get_or vs i 0 ≤ l → ⊥) → None ≡ items_end at₀ left₀ ts ps vs
        ending_over_value o = end_over end left _ _ _ _ _ _ (omega (arith, g.0, g.1)) ∙ here

        module _ (m n : ℕ) (o : (get_or vs i 0 ≤ l) × (m ≡ l - get_or vs i 0)) (e : Some n ≡ value_in (size_of (get_or ts i 0) (get_or ps i 0) (get_or vs i 0))) where
          pub ending_again : Ending at₀ left₀ ts ps vs (i + 1) (end + n) m
          ending_again =
              let s : size_of (get_or ts i 0) (get_or ps i 0) (get_or vs i 0) ≡ ok n = sym (value_is _ n e) in
              let k = (size_known _ _ _ n s).most in
              let q : left - get_or ps i 0 - get_or vs i 0 ≡ m = omega (arith, g.1, o.1) in
              let r = end_next end left _ _ _ (drop (i + 1) ts) (drop (i + 1) ps) (drop (i + 1) vs) n s g.0 (omega (arith, g.1, o.0)) in
              record { most = omega arith; rest = rw q at r ∙ here; room = omega (arith, w.room, g.0, g.1, o.0, o.1) }

          pub ending_fits : end + n < 2 ^ 64
          ending_fits = let k = ending_again.room in omega (arith, f.room)

    pub ending_done : length ts ≤ i → Some (ends_at left end) ≡ items_end at₀ left₀ ts ps vs
    unfolding items_end sizes_of sum map_ok
    ending_done h =
        let z : drop i ts ≡ [] = drop_of_length-le ts {i = i} h in
        let zp : drop i ps ≡ [] = drop_of_length-le ps {i = i} (omega (arith, f.listed.prefixes)) in
        let zv : drop i vs ≡ [] = drop_of_length-le vs {i = i} (omega (arith, f.listed.values)) in
        let b : leb 0 left ≡ true = le-leb 0 left (omega arith) in
        rw (b, sub-zero left) at (rw (z, zp, zv) at w.rest)

items_most : (at left : ℕ) (ts ps vs : List ℕ) (d : SameLengths ts ps vs) (r : ItemsEnd) → Some r ≡ items_end at left ts ps vs → r.end + r.left ≤ at + left + 3 * length ts
unfolding items_end map_ok
items_most at left ts ps vs d r e = go (leb (sum ps + sum vs) left) refl (sizes_of at ts ps vs) refl e
  where
    go : (x : Bool) → leb (sum ps + sum vs) left ≡ x → (m : Answer ℕ) → sizes_of at ts ps vs ≡ m → Some r ≡ pick x (value_in (map_ok (ends_at (left - (sum ps + sum vs))) m)) None → r.end + r.left ≤ at + left + 3 * length ts
    go false q m s e = cc
    go true q (refused k) s e = cc
    go true q (ok n) s e =
        let h : sum ps + sum vs ≤ left = leb-true _ _ q in
        let y = sizes_most at ts ps vs n d.prefixes d.values s in
        rw (some_injective r (ends_at (left - (sum ps + sum vs)) n) e) (omega arith)

-- ---- the end of chunks

sum_none : (xs : List ℕ) → length xs ≡ 0 → sum xs ≡ 0
unfolding sum
sum_none [] e = refl
sum_none (x ∷ xs) e = absurd (omega arith)

module _ (at left c : ℕ) (cs ts ps vs : List ℕ) where
  over_none : length ts < c → None ≡ chunks_end at left (c ∷ cs) ts ps vs
  unfolding chunks_end sum
  over_none h = let b : eqb (c + sum cs) (length ts) ≡ false = ne_eqb _ _ (λ y. omega arith) in rw b

  chunk_none : None ≡ items_end (at + 4) left (take c ts) (take c ps) (take c vs) → None ≡ chunks_end at left (c ∷ cs) ts ps vs
  unfolding items_end chunks_end chunks_from sum map_ok ◌>>=◌
  chunk_none h = go (leb (sum (take c ps) + sum (take c vs)) left) refl (sizes_of (at + 4) (take c ts) (take c ps) (take c vs)) h
    where
      go : (x : Bool) → leb (sum (take c ps) + sum (take c vs)) left ≡ x → (m : Answer ℕ)
          → None ≡ pick x (value_in (map_ok (ends_at (left - (sum (take c ps) + sum (take c vs)))) m)) None
          → None ≡ pick (eqb (c + sum cs) (length ts) && eqb (sum ps + sum vs) left) (value_in (map_ok boundary_above m >>= (λ (e : ℕ). chunks_from e cs (drop c ts) (drop c ps) (drop c vs)))) None
      go false q m e =
          let k : left < sum (take c ps) + sum (take c vs) = leb-false _ _ q in
          let a = sum_split c ps in
          let b = sum_split c vs in
          let z : eqb (sum ps + sum vs) left ≡ false = ne_eqb (sum ps + sum vs) left (λ y. omega arith) in
          rw (z, and_none (eqb (c + sum cs) (length ts)))
      go true q (refused r) e = sym (none (eqb (c + sum cs) (length ts) && eqb (sum ps + sum vs) left) None)
      go true q (ok n) e = cc

  chunk_next : c ≤ length ts → (r : ItemsEnd) → Some r ≡ items_end (at + 4) left (take c ts) (take c ps) (take c vs)
      → chunks_end (boundary_above r.end) r.left cs (drop c ts) (drop c ps) (drop c vs) ≡ chunks_end at left (c ∷ cs) ts ps vs
  unfolding items_end chunks_end chunks_from sum map_ok ◌>>=◌
  chunk_next f r h = go (leb (sum (take c ps) + sum (take c vs)) left) refl (sizes_of (at + 4) (take c ts) (take c ps) (take c vs)) h
    where
      go : (x : Bool) → leb (sum (take c ps) + sum (take c vs)) left ≡ x → (m : Answer ℕ)
          → Some r ≡ pick x (value_in (map_ok (ends_at (left - (sum (take c ps) + sum (take c vs)))) m)) None
          → pick (eqb (sum cs) (length (drop c ts)) && eqb (sum (drop c ps) + sum (drop c vs)) r.left) (value_in (chunks_from (boundary_above r.end) cs (drop c ts) (drop c ps) (drop c vs))) None
          ≡ pick (eqb (c + sum cs) (length ts) && eqb (sum ps + sum vs) left) (value_in (map_ok boundary_above m >>= (λ (e : ℕ). chunks_from e cs (drop c ts) (drop c ps) (drop c vs)))) None
      go false q m e = cc
      go true q (refused k) e = cc
      go true q (ok n) e =
          let k : sum (take c ps) + sum (take c vs) ≤ left = leb-true _ _ q in
          let a = sum_split c ps in
          let b = sum_split c vs in
          let l = length-drop c ts in
          let u : eqb (sum cs) (length (drop c ts)) ≡ eqb (c + sum cs) (length ts) = eqb_same (sum cs) (length (drop c ts)) (c + sum cs) (length ts) (λ y. omega arith) (λ y. omega arith) in
          let v : eqb (sum (drop c ps) + sum (drop c vs)) (left - (sum (take c ps) + sum (take c vs))) ≡ eqb (sum ps + sum vs) left =
          eqb_same (sum (drop c ps) + sum (drop c vs)) (left - (sum (take c ps) + sum (take c vs))) (sum ps + sum vs) left (λ y. omega arith) (λ y. omega arith) in
          rw (some_injective r (ends_at (left - (sum (take c ps) + sum (take c vs))) n) e) (rw (u, v))

-- of the lists ts₀, ps₀ and vs₀, ts, ps and vs are left
pub record Counting (start left₀ : ℕ) (cs ts₀ ps₀ vs₀ : List ℕ) (k at left : ℕ) (ts ps vs : List ℕ) : Type 0 where
  pub within : k ≤ length cs
  pub listed : SameLengths ts ps vs
  pub scaled : length ts * 8 < 2 ^ 64
  pub rest : chunks_end at left (drop k cs) ts ps vs ≡ chunks_end start left₀ cs ts₀ ps₀ vs₀
  pub room : at + left + 3 * length ts + 8 * (length cs - k) ≤ start + left₀ + 3 * length ts₀ + 8 * length cs

closed_most : (e : ℕ) → boundary_above e ≤ e + 4
closed_most e = omega arith

room_next : (e l at left c x y b m : ℕ) → e + l ≤ at + 4 + left + 3 * c → m ≤ e + 4 → at + left + 3 * (c + x) + 8 * (1 + y) ≤ b → m + l + 3 * x + 8 * y ≤ b
room_next e l at left c x y b m f g h = omega arith

module _ (start left₀ : ℕ) (cs ts₀ ps₀ vs₀ : List ℕ) (f : ChunksMeasured start cs ts₀ ps₀ vs₀ left₀) where
  pub counting_start : Counting start left₀ cs ts₀ ps₀ vs₀ 0 start left₀ ts₀ ps₀ vs₀
  counting_start = record { within = omega arith; listed = f.listed; scaled = f.scaled; rest = refl; room = omega arith }

  module _ (k at left : ℕ) (ts ps vs : List ℕ) (w : Counting start left₀ cs ts₀ ps₀ vs₀ k at left ts ps vs) where
    module _ (limit : ℕ) (h : k < length cs) (c : ℕ) (q : c ≡ get_or cs k 0) where
      chunk_here : chunks_end at left (c ∷ drop (k + 1) cs) ts ps vs ≡ chunks_end start left₀ cs ts₀ ps₀ vs₀
      chunk_here = rw q (simp add-one (simp (drop-cons cs k 0 h) at w.rest))

      pub counting_over : length ts < c → None ≡ at_most limit (chunks_end start left₀ cs ts₀ ps₀ vs₀)
      counting_over g = ap (at_most limit) (over_none at left c (drop (k + 1) cs) ts ps vs g ∙ chunk_here)

      pub counting_refused : None ≡ items_end (at + 4) left (take c ts) (take c ps) (take c vs) → None ≡ at_most limit (chunks_end start left₀ cs ts₀ ps₀ vs₀)
      counting_refused e = ap (at_most limit) (chunk_none at left c (drop (k + 1) cs) ts ps vs e ∙ chunk_here)

      module _ (g : c ≤ length ts) where
        pub counting_place : at + 4 < 2 ^ 64
        counting_place = omega (arith, w.room, f.room)

        pub counting_listed : SameLengths (take c ts) (take c ps) (take c vs)
        counting_listed = record { prefixes = simp (length-take, w.listed.prefixes); values = simp (length-take, w.listed.values) }

        pub counting_fits : ItemsMeasured (at + 4) left (take c ts) (take c ps) (take c vs)
        counting_fits = record { listed = counting_listed; room = rw (length-take-le c ts g) (omega (arith, w.room, f.room)) }

        module _ (r : ItemsEnd) (e : Some r ≡ items_end (at + 4) left (take c ts) (take c ps) (take c vs)) where
          most : r.end + r.left ≤ at + 4 + left + 3 * c
          most = rw (length-take-le c ts g) at (items_most (at + 4) left (take c ts) (take c ps) (take c vs) counting_listed r e)

          pub counting_end : boundary_above r.end < 2 ^ 64
          counting_end = omega (arith, most, w.room, f.room)

          pub counting_again : (m : ℕ) → m ≡ boundary_above r.end → Counting start left₀ cs ts₀ ps₀ vs₀ (k + 1) m r.left (drop c ts) (drop c ps) (drop c vs)
          counting_again m z =
              let a : length ts ≡ c + (length ts - c) = omega arith in
              let b : length cs - k ≡ 1 + (length cs - (k + 1)) = omega arith in
              record {
                within = omega arith;
                listed = record { prefixes = simp (length-drop, w.listed.prefixes); values = simp (length-drop, w.listed.values) };
                scaled = rw length-drop (omega (arith, w.scaled));
                rest = rw z (chunk_next at left c (drop (k + 1) cs) ts ps vs g r e ∙ chunk_here);
                room = rw length-drop (room_next r.end r.left at left c (length ts - c) (length cs - (k + 1)) _ m most (rw z (closed_most r.end)) (rw (a, b) at w.room));
              }

    module _ (limit : ℕ) (h : length cs ≤ k) where
      last : pick (eqb 0 (length ts) && eqb (sum ps + sum vs) left) (Some at) None ≡ chunks_end start left₀ cs ts₀ ps₀ vs₀
      unfolding chunks_end chunks_from sum
      last = let z : drop k cs ≡ [] = drop_of_length-le cs {i = k} h in rw z at w.rest

      pub counting_items : (length ts ≡ 0 → ⊥) → None ≡ at_most limit (chunks_end start left₀ cs ts₀ ps₀ vs₀)
      counting_items g = let b : eqb 0 (length ts) ≡ false = ne_eqb 0 (length ts) (λ e. g (sym e)) in ap (at_most limit) (rw b at last)

      module _ (g : length ts ≡ 0) where
        all : eqb 0 (length ts) ≡ true
        all = eq-eqb 0 (length ts) (sym g)

        used : sum ps + sum vs ≡ 0
        used = let p = sum_none ps (w.listed.prefixes ∙ g) in let v = sum_none vs (w.listed.values ∙ g) in omega arith

        pub counting_bytes : (left ≡ 0 → ⊥) → None ≡ at_most limit (chunks_end start left₀ cs ts₀ ps₀ vs₀)
        counting_bytes z = let b : eqb (sum ps + sum vs) left ≡ false = ne_eqb _ _ (λ e. z (sym e ∙ used)) in ap (at_most limit) (rw (all, b) at last)

        module _ (z : left ≡ 0) where
          whole : Some at ≡ chunks_end start left₀ cs ts₀ ps₀ vs₀
          whole = let b : eqb (sum ps + sum vs) left ≡ true = eq-eqb _ _ (used ∙ sym z) in rw (all, b) at last

          pub counting_past : limit < at → None ≡ at_most limit (chunks_end start left₀ cs ts₀ ps₀ vs₀)
          counting_past o = rw (← whole, lt-leb _ _ o)

          pub counting_done : at ≤ limit → Some at ≡ at_most limit (chunks_end start left₀ cs ts₀ ps₀ vs₀)
          counting_done o = rw (← whole, le-leb _ _ o)

-- the end of the first items, as the code has them
pub first_end : (at left c : ℕ) (l x : ItemLists) → FirstItems c l x → items_end_in at left x ≡ items_end at left (take c l.types.now) (take c l.prefixes.now) (take c l.values.now)
first_end at left c l x f = rw (f.types, f.prefixes, f.values)

-- ---- what an end says of the lists, and what there is of lists that agree

pub record EndKnown (start left : ℕ) (cs ts ps vs : List ℕ) (n : ℕ) : Type 0 where
  pub counts : sum cs ≡ length ts
  pub bytes : sum ps + sum vs ≡ left
  pub is : chunks_from start cs ts ps vs ≡ ok n

module _ (start left : ℕ) (cs ts ps vs : List ℕ) where
  pub end_known : (n : ℕ) → Some n ≡ chunks_end start left cs ts ps vs → EndKnown start left cs ts ps vs n
  unfolding chunks_end
  end_known n h = go (eqb (sum cs) (length ts)) refl (eqb (sum ps + sum vs) left) refl h
    where
      go : (x : Bool) → eqb (sum cs) (length ts) ≡ x → (y : Bool) → eqb (sum ps + sum vs) left ≡ y → Some n ≡ pick (x && y) (value_in (chunks_from start cs ts ps vs)) None → EndKnown start left cs ts ps vs n
      go true q true r e = record { counts = eqb-true _ _ q; bytes = eqb-true _ _ r; is = sym (value_is _ n e) }
      go true q false r e = cc
      go false q y r e = cc

  pub end_agreed : sum cs ≡ length ts → sum ps + sum vs ≡ left → chunks_end start left cs ts ps vs ≡ value_in (chunks_from start cs ts ps vs)
  unfolding chunks_end
  end_agreed c b = rw (eq-eqb _ _ c, eq-eqb _ _ b)

  pub end_disagreed : eqb (sum ps + sum vs) left ≡ false → chunks_end start left cs ts ps vs ≡ None
  unfolding chunks_end
  end_disagreed e = rw (e, and_none (eqb (sum cs) (length ts)))

pub ruleset sums = (not-true, not-false, agreed_listed, summing_start, summing_over, summing_again, summing_done, prefixes_other, values_other, sums_agree)

pub ruleset asking = (values, not-true, not-false, asking_start, asking_told, asking_again, asking_done)

pub ruleset ending = (ending_start, ending_refused, ending_over, ending_over_value, ending_again, ending_fits, ending_done)

pub ruleset counting = (counting_start, counting_over, counting_place, counting_fits, counting_end, counting_items, counting_bytes, counting_past, counting_done)
