-- Some chunk of the lists lent has a CNAME exactly if some item lent is one.
use Rattle.rfc3550.proofs.Prelude.{ℕ, zero, suc, ◌+◌, ◌<◌, ◌≤◌, ◌≡◌, refl, sym, ap, ◌∙◌, Bool, true, false, ◌&&◌, ◌||◌, List, [], ◌∷◌, add-zero, add-one, arith, rules, eqb-true, length, take, drop, get_or, length-drop, drop_of_length-le, drop-cons, drop-drop, get_or-drop, length-take-le, eqb}
use Rattle.rfc3550.specs.Answer.{ok, pick}
use Rattle.rfc3550.specs.Bytes.{sum}
use Rattle.rfc3550.specs.Packet.{Item, item, priv, item_type, item_rest, is_cname, some, chunk_has_cname}
use Rattle.rfc3550.specs.Write.{Lists, LentItem, lent_items, lent_chunks, item_given, items_given, chunks_given, lists_agree, items_agree, own_tests, give_sdes}
use Rattle.rfc3550.specs.Writer.{gives_cname}
use Rattle.rfc3550.proofs.Answers.{need_inv, and_inv, or_assoc}
use Rattle.sdes_write.specs.Names.{lent_cname}

-- ---- items

-- no PRIV item is one
priv_not : (n : ℕ) → is_cname 8 n ≡ false
priv_not n = refl

abbrev item_has_cname : Item → Bool
item_has_cname i = is_cname (item_type i) (length (item_rest i))

item_named : (t : ℕ) (p v : List ℕ) (x : Bool) → eqb t 8 ≡ x → item_has_cname (pick x (priv p v) (item t v)) ≡ is_cname t (length v)
item_named t p v true e = rw (eqb-true t 8 e)
item_named t p v false e = refl

items_named : (ts ps vs bs : List ℕ) → length ts ≡ length ps → length ts ≡ length vs → sum ps + sum vs ≤ length bs
    → some item_has_cname (items_given (lent_items ts ps vs bs)) ≡ lent_cname ts vs
unfolding lent_items items_given lent_cname sum
items_named [] ps vs bs f g h = refl
items_named (t ∷ ts) [] vs bs f g h = absurd (omega arith)
items_named (t ∷ ts) (p ∷ ps) [] bs f g h = absurd (omega arith)
items_named (t ∷ ts) (p ∷ ps) (v ∷ vs) bs f g h =
    let d = length-drop p bs in
    let e = length-drop (p + v) bs in
    let m : length (take v (drop p bs)) ≡ v = length-take-le v (drop p bs) (omega arith) in
    let i : item_has_cname (pick (eqb t 8) (priv (take p bs) (take v (drop p bs))) (item t (take v (drop p bs)))) ≡ is_cname t v = item_named t (take p bs) (take v (drop p bs)) (eqb t 8) refl ∙ ap (is_cname t) m in
    rw (i, items_named ts ps vs (drop (p + v) bs) (omega arith) (omega arith) (omega arith))

-- ---- chunks

some_split : {A : Type 0} (f : A → Bool) (n : ℕ) (l : List A) → some f (take n l) || some f (drop n l) ≡ some f l
some_split f zero l = refl
some_split f (suc n) [] = refl
some_split f (suc n) (x ∷ l) = or_assoc (f x) (some f (take n l)) (some f (drop n l)) ∙ ap (λ (b : Bool). f x || b) (some_split f n l)

abbrev lent_has_cname : LentItem → Bool
lent_has_cname i = item_has_cname (item_given i)

given_named : (is : List LentItem) → some item_has_cname (items_given is) ≡ some lent_has_cname is
unfolding items_given
given_named [] = refl
given_named (i ∷ is) = ap (λ (b : Bool). lent_has_cname i || b) (given_named is)

chunks_named : (ss ns : List ℕ) (is : List LentItem) → length ss ≡ length ns → sum ns ≡ length is
    → some chunk_has_cname (chunks_given (lent_chunks ss ns is)) ≡ some lent_has_cname is
unfolding lent_chunks chunks_given sum
chunks_named [] [] [] f h = refl
chunks_named [] [] (i ∷ is) f h = absurd (omega arith)
chunks_named [] (n ∷ ns) is f h = absurd (omega arith)
chunks_named (s ∷ ss) [] is f h = absurd (omega arith)
chunks_named (s ∷ ss) (n ∷ ns) is f h =
    let d = length-drop n is in
    rw (given_named (take n is), chunks_named ss ns (drop n is) (omega arith) (omega arith)) (some_split lent_has_cname n is)

length_lent : (ts ps vs bs : List ℕ) → length (lent_items ts ps vs bs) ≡ length ts
unfolding lent_items
length_lent [] ps vs bs = refl
length_lent (t ∷ ts) ps vs bs = ap suc (length_lent ts (drop 1 ps) (drop 1 vs) (drop (get_or ps 0 0 + get_or vs 0 0) bs))

pub record Agreed (l : Lists) : Type 0 where
  pub chunks : length l.ssrcs ≡ length l.counts
  pub items : sum l.counts ≡ length l.types
  pub prefixes : length l.types ≡ length l.prefixes
  pub values : length l.types ≡ length l.values
  pub bytes : sum l.prefixes + sum l.values ≡ length l.bytes

pub agreed : (l : Lists) → lists_agree l ≡ true → Agreed l
agreed l e =
    let a = and_inv (eqb (length l.ssrcs) (length l.counts) && eqb (sum l.counts) (length l.types)) (items_agree l.types l.prefixes l.values l.bytes) e in
    let b = and_inv (eqb (length l.ssrcs) (length l.counts)) (eqb (sum l.counts) (length l.types)) a.0 in
    let c = and_inv (eqb (length l.types) (length l.prefixes) && eqb (length l.types) (length l.values)) (eqb (sum l.prefixes + sum l.values) (length l.bytes)) a.1 in
    let d = and_inv (eqb (length l.types) (length l.prefixes)) (eqb (length l.types) (length l.values)) c.0 in
    record { chunks = eqb-true _ _ b.0; items = eqb-true _ _ b.1; prefixes = eqb-true _ _ d.0; values = eqb-true _ _ d.1; bytes = eqb-true _ _ c.1 }

pub names_lent : (l : Lists) (k : ℕ) → lists_agree l ≡ true → gives_cname (give_sdes l k) ≡ lent_cname l.types l.values
names_lent l k e =
    let a = agreed l e in
    let n = length_lent l.types l.prefixes l.values l.bytes in
    let b = a.bytes in
    chunks_named l.ssrcs l.counts (lent_items l.types l.prefixes l.values l.bytes) a.chunks (a.items ∙ sym n)
    ∙ sym (given_named (lent_items l.types l.prefixes l.values l.bytes))
    ∙ items_named l.types l.prefixes l.values l.bytes a.prefixes a.values (omega arith)

-- an SDES that passes its own tests: its lists agree, and it names what its items do
module _ (l : Lists) (k : ℕ) (passed : own_tests (give_sdes l k) ≡ ok tt) where
  passed_agree : lists_agree l ≡ true
  unfolding own_tests
  passed_agree = (need_inv _ _ _ _ _ passed).0

  pub values_agree : length l.types ≡ length l.values
  values_agree = (agreed l passed_agree).values

  pub names_given : (named : Bool) → named ≡ lent_cname l.types l.values → named ≡ gives_cname (give_sdes l k)
  names_given named e = e ∙ sym (names_lent l k passed_agree)

-- ---- the loop over the items: the rest is still to be tested

pub record Testing (ts vs : List ℕ) (i : ℕ) : Type 0 where
  pub within : i ≤ length ts
  pub rest : lent_cname (drop i ts) (drop i vs) ≡ lent_cname ts vs

module _ (ts vs : List ℕ) where
  pub testing_start : Testing ts vs 0
  testing_start = record { within = omega arith; rest = refl }

  testing_step : (i : ℕ) → i < length ts → lent_cname (drop i ts) (drop i vs) ≡ is_cname (get_or ts i 0) (get_or vs i 0) || lent_cname (drop (suc i) ts) (drop (suc i) vs)
  unfolding lent_cname
  testing_step i h =
      let d : drop 1 (drop i vs) ≡ drop (suc i) vs = rw (drop-drop, add-one) in
      let g : get_or (drop i vs) 0 0 ≡ get_or vs i 0 = rw (get_or-drop, add-zero) in
      rw (drop-cons ts i 0 h, d) (ap (λ (v : ℕ). is_cname (get_or ts i 0) v || lent_cname (drop (suc i) ts) (drop (suc i) vs)) g)

  pub testing_again : (i : ℕ) (t : Bool) → Testing ts vs i → i < length ts → t ≡ is_cname (get_or ts i 0) (get_or vs i 0) → t ≡ false → Testing ts vs (i + 1)
  testing_again i t w h e q =
      let s = testing_step i h in
      let z : is_cname (get_or ts i 0) (get_or vs i 0) ≡ false = sym e ∙ q in
      record { within = omega arith; rest = rw add-one (sym (rw z at s) ∙ w.rest) }

  pub testing_found : (i : ℕ) (t : Bool) → Testing ts vs i → i < length ts → t ≡ is_cname (get_or ts i 0) (get_or vs i 0) → t ≡ true → true ≡ lent_cname ts vs
  testing_found i t w h e q =
      let s = testing_step i h in
      let z : is_cname (get_or ts i 0) (get_or vs i 0) ≡ true = sym e ∙ q in
      sym (rw z at s) ∙ w.rest

  pub testing_done : (i : ℕ) → Testing ts vs i → length ts ≤ i → false ≡ lent_cname ts vs
  unfolding lent_cname
  testing_done i w h =
      let z : drop i ts ≡ [] = drop_of_length-le ts {i = i} h in
      rw z at w.rest

pub ruleset namings = (rules, testing_start, testing_again, testing_found, testing_done)
