-- The steps of reading an item, each from what the code has tested.
use Rattle.std.specs.Prelude.{Option, None, Some}
use Rattle.std.proofs.lemmas.Option.{none-some, same_Some}
use Rattle.rfc3550.proofs.Prelude.{ℕ, zero, suc, ◌+◌, ◌-◌, ◌^◌, min, ◌<◌, ◌≤◌, ◌≡◌, refl, sym, ap, ◌∙◌, List, [], ◌∷◌, ◌++◌, arith, rules, le-leb, lt-leb, leb-true, leb-false, lt-ltb, le-ltb, ltb-true, ltb-false, eq-eqb, ne_eqb, eqb-true, eqb-false, Bool, true, false, leb, ltb, eqb, length, get_or, take, drop, length-drop, take-append-drop, drop_of_length-le, length-take-le}
use Rattle.rfc3550.specs.Answer.{Refusal, refusal, Answer, ok, refused, refuse, need, ◌>>◌, ◌>>=◌, map_ok}
use Rattle.rfc3550.specs.Packet.{Item, item, priv, item_type, item_bytes}
use Rattle.rfc3550.specs.Read.{read_item, item_of, read_prefix}
use Rattle.rfc3550.specs.Walk.{item_step}
use Rattle.rfc3550.proofs.Answers.{map_ok_inv, true≢false}
use Rattle.utils.specs.Error.{value_in}
use Rattle.utils.proofs.Values.{none_refused, none_below, refused_viewed}
use Rattle.sdes_chunk.specs.declared.item.SdesItem.{SdesItem}
use Rattle.sdes_chunk.specs.Item.{item_view, item_first, item_size, item_end, read_end, step_end, value_of, value_start, value_len}
use Rattle.sdes_chunk.proofs.Answers.{rest_is, map_ok_lem}
use Rattle.sdes_chunk.proofs.Readings.{is_priv, item_in, item_length_lem, item_placed, prefix_not, prefix_length_lem, prefix_taken}

abbrev seen : List ℕ → Answer SdesItem
seen s = map_ok item_first (read_item s)

abbrev size : List ℕ → Option ℕ
size s = value_in (map_ok item_size (read_item s))

short : (s : List ℕ) → length s < 2 → read_item s ≡ refuse 2 4 (length s)
unfolding read_item
short [] h = refl
short (b ∷ []) h = refl
short (b ∷ c ∷ s) h = absurd (omega arith)

past : (s : List ℕ) (n : ℕ) → 2 ≤ length s → n ≡ get_or s 1 0 → length s - 2 < n → read_item s ≡ refuse 2 (2 + n) (length s)
unfolding read_item need ◌>>◌
past [] n l e h = absurd (omega arith)
past (t ∷ []) n l e h = absurd (omega arith)
past (t ∷ m ∷ s) n l e h = rw (e, lt-leb m (length s) (omega arith)) (ap (refuse 2 (2 + m)) (omega arith))

abbrev Read : List ℕ → ℕ → Type 0
Read s n = (x : Item × List ℕ) × (read_item s ≡ ok x) × (item_size x ≡ n)

plain : (s : List ℕ) (n : ℕ) → 2 ≤ length s → n ≡ get_or s 1 0 → n ≤ length s - 2 → (get_or s 0 0 ≡ 8 → ⊥) → Read s (2 + n)
unfolding read_item item_of need ◌>>◌ ◌>>=◌
plain [] n l e h q = absurd (omega arith)
plain (t ∷ []) n l e h q = absurd (omega arith)
plain (t ∷ m ∷ s) n l e h q =
    ((item t (take m s), drop m s), rw (le-leb m (length s) (omega arith), ne_eqb t 8 q), rw (e, length-take-le m s (omega arith)) (omega arith))

empty : (s : List ℕ) (n : ℕ) → 2 ≤ length s → n ≡ get_or s 1 0 → n ≤ length s - 2 → get_or s 0 0 ≡ 8 → n ≡ 0 → read_item s ≡ refuse 2 3 2
unfolding read_item item_of need ◌>>◌ ◌>>=◌
empty [] n l e h q z = absurd (omega arith)
empty (t ∷ []) n l e h q z = absurd (omega arith)
empty (t ∷ m ∷ s) n l e h q z = rw (sym e ∙ z, q, le-leb 0 (length s) (omega arith))

over : (s : List ℕ) (n p : ℕ) → 2 ≤ length s → n ≡ get_or s 1 0 → n ≤ length s - 2 → get_or s 0 0 ≡ 8 → (n ≡ 0 → ⊥) → p ≡ get_or s 2 0 → n - 1 < p → read_item s ≡ refuse 5 p (n - 1)
unfolding read_item item_of need ◌>>◌ ◌>>=◌
over [] n p l e h q z r k = absurd (omega arith)
over (t ∷ []) n p l e h q z r k = absurd (omega arith)
over (t ∷ m ∷ []) n p l e h q z r k = absurd (omega arith)
over (t ∷ zero ∷ b ∷ s) n p l e h q z r k = absurd (z e)
over (t ∷ suc m ∷ b ∷ s) n p l e h q z r k =
    rw (e, q, r, le-leb (suc m) (length (b ∷ s)) (omega arith), length-take-le m s (omega arith), lt-leb b m (omega arith)) (ap (refuse 5 b) (omega arith))

whole : (s : List ℕ) (n p : ℕ) → 2 ≤ length s → n ≡ get_or s 1 0 → n ≤ length s - 2 → get_or s 0 0 ≡ 8 → (n ≡ 0 → ⊥) → p ≡ get_or s 2 0 → p ≤ n - 1 → Read s (2 + n)
unfolding read_item item_of need ◌>>◌ ◌>>=◌
whole [] n p l e h q z r k = absurd (omega arith)
whole (t ∷ []) n p l e h q z r k = absurd (omega arith)
whole (t ∷ m ∷ []) n p l e h q z r k = absurd (omega arith)
whole (t ∷ zero ∷ b ∷ s) n p l e h q z r k = absurd (z e)
whole (t ∷ suc m ∷ b ∷ s) n p l e h q z r k =
    let w : length (take m s) ≡ m = length-take-le m s (omega arith) in (
      (priv (take b (take m s)) (drop b (take m s)), drop m s),
      rw (q, le-leb (suc m) (length (b ∷ s)) (omega arith), w, le-leb b m (omega arith)),
      rw (e, take-append-drop b (take m s), w) (omega arith),
    )

-- ---- the size, and why there is none

read_some : (s : List ℕ) (n : ℕ) → Read s n → value_in (read_item s) ≡ None → ⊥
read_some s n w z = none-some w.0 (sym z ∙ ap value_in w.1)

pub why_short : (s : List ℕ) → length s < 2 → refused (refusal 2 4 (length s)) ≡ read_item s
why_short s h = sym (short s h)

module _ (s : List ℕ) (n : ℕ) (l : 2 ≤ length s) (e : n ≡ get_or s 1 0) where
  pub why_past : length s - 2 < n → refused (refusal 2 (2 + n) (length s)) ≡ read_item s
  why_past h = sym (past s n l e h)

  -- an item that has its bytes and is refused is PRIV
  module _ (h : n ≤ length s - 2) (r : value_in (read_item s) ≡ None) where
    is_eight : get_or s 0 0 ≡ 8
    is_eight = go (eqb (get_or s 0 0) 8) refl
      where
        go : (b : Bool) → eqb (get_or s 0 0) 8 ≡ b → get_or s 0 0 ≡ 8
        go true q = eqb-true (get_or s 0 0) 8 q
        go false q = absurd (read_some s _ (plain s n l e h (eqb-false (get_or s 0 0) 8 q)) r)

    pub why_empty : n ≡ 0 → refused (refusal 2 3 2) ≡ read_item s
    why_empty z = sym (empty s n l e h is_eight z)

    module _ (z : n ≡ 0 → ⊥) where
      pub why_third : 2 < length s
      why_third = omega arith

      pub why_over : (p : ℕ) → p ≡ get_or s 2 0 → refused (refusal 5 p (n - 1)) ≡ read_item s
      why_over p q = go (leb p (n - 1)) refl
        where
          go : (b : Bool) → leb p (n - 1) ≡ b → refused (refusal 5 p (n - 1)) ≡ read_item s
          go true y = absurd (read_some s _ (whole s n p l e h is_eight z q (leb-true p (n - 1) y)) r)
          go false y = sym (over s n p l e h is_eight z q (leb-false p (n - 1) y))

-- the end of the item at a place, which is read from the part that starts with it
module _ (s : List ℕ) (at : ℕ) (l : at + 2 ≤ length s) where
  abbrev rest : List ℕ
  rest = take (length s - at) (drop at s)

  two : 2 ≤ length (drop at s)
  two = rw length-drop (omega arith)

  no_end_lem : (r : Refusal) → read_item (drop at s) ≡ refused r → None ≡ read_end s at
  unfolding map_ok
  no_end_lem r w = rw w

  read_end_lem : (n : ℕ) → Read (drop at s) (2 + n) → Some (at + 2 + n) ≡ read_end s at
  unfolding map_ok
  read_end_lem n w =
      let e : at + (2 + n) ≡ at + 2 + n = omega arith in
      rw w.1 (ap Some (sym e) ∙ ap (λ (k : ℕ). Some (at + k)) (sym w.2))

  module _ (n : ℕ) (e : n ≡ get_or rest 1 0) where
    length_here : n ≡ get_or (drop at s) 1 0
    length_here = e ∙ ap (λ (r : List ℕ). get_or r 1 0) (rest_is s at)

    pub end_past : length s < at + 2 + n → None ≡ read_end s at
    end_past h = no_end_lem _ (past (drop at s) n two length_here (rw length-drop (omega arith)))

    module _ (h : at + 2 + n ≤ length s) where
      fits : n ≤ length (drop at s) - 2
      fits = rw length-drop (omega arith)

      pub end_plain : (get_or rest 0 0 ≡ 8 → ⊥) → Some (at + 2 + n) ≡ read_end s at
      end_plain q = read_end_lem n (plain (drop at s) n two length_here fits (rw rest_is at q))

      module _ (q : get_or rest 0 0 ≡ 8) where
        type_here : get_or (drop at s) 0 0 ≡ 8
        type_here = rw rest_is at q

        pub end_empty : n ≡ 0 → None ≡ read_end s at
        end_empty z = no_end_lem _ (empty (drop at s) n two length_here fits type_here z)

        module _ (z : n ≡ 0 → ⊥) where
          pub end_third : 2 < length rest
          end_third = rw (rest_is, length-drop) (omega arith)

          module _ (p : ℕ) (r : p ≡ get_or rest 2 0) where
            prefix_here : p ≡ get_or (drop at s) 2 0
            prefix_here = r ∙ ap (λ (r : List ℕ). get_or r 2 0) (rest_is s at)

            pub end_over : n - 1 < p → None ≡ read_end s at
            end_over k = no_end_lem _ (over (drop at s) n p two length_here fits type_here z prefix_here k)

            pub end_whole : p ≤ n - 1 → Some (at + 2 + n) ≡ read_end s at
            end_whole k = read_end_lem n (whole (drop at s) n p two length_here fits type_here z prefix_here k)

pub size_short : (s : List ℕ) → length s < 2 → None ≡ size s
unfolding map_ok
size_short s h = rw (short s h)

pub size_end : (s : List ℕ) (o : Option ℕ) → o ≡ read_end s 0 → o ≡ size s
unfolding map_ok
size_end s o h = h ∙ go (read_item s)
  where
    go : (m : Answer (Item × List ℕ)) → value_in (map_ok (item_end 0) m) ≡ value_in (map_ok item_size m)
    go (ok x) = let e : 0 + item_size x ≡ item_size x = omega arith in ap Some e
    go (refused r) = refl

-- ---- the step over an item

module _ (s : List ℕ) (at : ℕ) where
  pub end_none : length s ≤ at → None ≡ step_end s at
  unfolding item_step need ◌>>◌ map_ok
  end_none l = rw (le-ltb at (length s) l)

  pub step_none : length s ≤ at → refused (refusal 25 0 0) ≡ item_step s at
  unfolding item_step need ◌>>◌
  step_none l = rw (le-ltb at (length s) l)

  module _ (l : at < length s) where
    pub end_zero : get_or s at 0 ≡ 0 → None ≡ step_end s at
    unfolding item_step need ◌>>◌ map_ok
    end_zero z = rw (lt-ltb at (length s) l, z)

    pub step_zero : get_or s at 0 ≡ 0 → refused (refusal 25 0 0) ≡ item_step s at
    unfolding item_step need ◌>>◌
    step_zero z = rw (lt-ltb at (length s) l, z)

    module _ (z : get_or s at 0 ≡ 0 → ⊥) where
      -- the step is the reading of the item
      step_is : item_step s at ≡ (read_item (drop at s) >>= λ (x : Item × List ℕ). ok (x.0, item_end at x))
      unfolding item_step need ◌>>◌
      step_is = rw (lt-ltb at (length s) l, ne_eqb (get_or s at 0) 0 z)

      pub why_step : (k : Refusal) → refused k ≡ read_item (take (length s - at) (drop at s)) → refused k ≡ item_step s at
      unfolding ◌>>=◌
      why_step k q = let w : read_item (drop at s) ≡ refused k = sym (q ∙ ap read_item (rest_is s at)) in rw (step_is, w)

      -- a step that is refused here is an item that is
      pub item_asked : value_in (item_step s at) ≡ None → value_in (read_item (take (length s - at) (drop at s))) ≡ None
      unfolding ◌>>=◌
      item_asked e = ap (λ (s : List ℕ). value_in (read_item s)) (rest_is s at) ∙ go (read_item (drop at s)) (sym (ap value_in step_is) ∙ e)
        where
          go : (m : Answer (Item × List ℕ)) → value_in (◌>>=◌ {B = Item × ℕ} m (λ x. ok (x.0, item_end at x))) ≡ None → value_in m ≡ None
          go (ok x) q = absurd (none-some (x.0, item_end at x) (sym q))
          go (refused r) q = refl

      pub end_is : read_end s at ≡ step_end s at
      unfolding ◌>>=◌ map_ok
      end_is = go (read_item (drop at s)) ∙ sym (ap (λ (m : Answer (Item × ℕ)). value_in (map_ok (λ (x : Item × ℕ). x.1) m)) step_is)
        where
          go : (m : Answer (Item × List ℕ)) → value_in (map_ok (item_end at) m) ≡ value_in (map_ok (λ (x : Item × ℕ). x.1) (◌>>=◌ {B = Item × ℕ} m (λ x. ok (x.0, item_end at x))))
          go (ok x) = refl
          go (refused r) = refl

  -- what the place says: an item stands there, or none, or one that is refused
  pub record Steps (n : ℕ) : Type 0 where
    pub inside : at < length s
    pub item : get_or s at 0 ≡ 0 → ⊥
    pub read : Item × List ℕ
    pub reads : read_item (drop at s) ≡ ok read
    pub end : item_end at read ≡ n

  -- a single byte is no item, and neither is none
  end_one : length s < at + 2 → None ≡ step_end s at
  unfolding map_ok
  end_one h = go (ltb at (length s)) (eqb (get_or s at 0) 0) refl refl
    where
      go : (a b : Bool) → ltb at (length s) ≡ a → eqb (get_or s at 0) 0 ≡ b → None ≡ step_end s at
      go false b f g = end_none (ltb-false at (length s) f)
      go true true f g = end_zero (ltb-true at (length s) f) (eqb-true (get_or s at 0) 0 g)
      go true false f g =
          let l = ltb-true at (length s) f in
          let w : read_item (drop at s) ≡ refuse 2 4 (length (drop at s)) = short (drop at s) (rw length-drop (omega arith)) in
          let y : None ≡ read_end s at = rw w in
          y ∙ end_is l (eqb-false (get_or s at 0) 0 g)

  pub end_few : length s < 2 → None ≡ step_end s at
  end_few h = end_one (omega arith)

  pub end_last : length s - 2 < at → None ≡ step_end s at
  end_last h = end_one (omega arith)

  module _ (h : 2 ≤ length s) (k : at ≤ length s - 2) where
    pub end_stop : get_or s at 0 ≡ 0 → None ≡ step_end s at
    end_stop z = end_zero (omega arith) z

    pub end_goes : (o : Option ℕ) → (get_or s at 0 ≡ 0 → ⊥) → o ≡ read_end s at → o ≡ step_end s at
    end_goes o z q = q ∙ end_is (omega arith) z

  pub steps_not : None ≡ step_end s at → at < length s → (get_or s at 0 ≡ 0 → ⊥) → (r : Refusal) × (read_item (drop at s) ≡ refused r)
  steps_not h l z = none_refused (read_item (drop at s)) (none_below (item_end at) (read_item (drop at s)) (h ∙ sym (end_is l z)))

  pub steps : (n : ℕ) → Some n ≡ step_end s at → Steps n
  unfolding map_ok
  steps n h = go (ltb at (length s)) (eqb (get_or s at 0) 0) refl refl (read_item (drop at s)) refl
    where
      go : (a b : Bool) → ltb at (length s) ≡ a → eqb (get_or s at 0) 0 ≡ b → (m : Answer (Item × List ℕ)) → read_item (drop at s) ≡ m → Steps n
      go false b f g m q = absurd (none-some n (end_none (ltb-false at (length s) f) ∙ sym h))
      go true true f g m q = absurd (none-some n (end_zero (ltb-true at (length s) f) (eqb-true (get_or s at 0) 0 g) ∙ sym h))
      go true false f g m q = on m q (h ∙ sym (end_is (ltb-true at (length s) f) (eqb-false (get_or s at 0) 0 g)) ∙ ap (λ (m : Answer (Item × List ℕ)). value_in (map_ok (item_end at) m)) q)
        where
          on : (m : Answer (Item × List ℕ)) → read_item (drop at s) ≡ m → Some n ≡ value_in (map_ok (item_end at) m) → Steps n
          on (refused r) q e = absurd (none-some n (sym e))
          on (ok x) q e =
              record {
                inside = ltb-true at (length s) f;
                item = eqb-false (get_or s at 0) 0 g;
                read = x;
                reads = q;
                end = sym (same_Some n (item_end at x) e);
              }

-- ---- the item, from its size

plain_view : (i : Item) (r s : List ℕ) → item_bytes i ++ r ≡ s → (get_or s 0 0 ≡ 8 → ⊥) → record { type_ = get_or s 0 0; length = get_or s 1 0; prefix_len = 0 } ≡ item_view i
plain_view (item t v) r s g h = rw (← g)
plain_view (priv p v) r s g h = absurd (h (ap (λ (s : List ℕ). get_or s 0 0) (sym g)))

priv_view : (i : Item) (r s : List ℕ) → item_bytes i ++ r ≡ s → is_priv i ≡ eqb (item_type i) 8 → get_or s 0 0 ≡ 8
    → (2 < length s) × (record { type_ = get_or s 0 0; length = get_or s 1 0; prefix_len = get_or s 2 0 } ≡ item_view i)
priv_view (item t v) r s g k h = absurd (true≢false (sym (k ∙ eq-eqb t 8 (ap (λ (s : List ℕ). get_or s 0 0) g ∙ h))))
priv_view (priv p v) r s g k h = rw (← g) (omega arith, refl)

module _ (s : List ℕ) where
  pub parse_none : None ≡ size s → value_in (read_item s) ≡ None
  parse_none e = none_below item_size (read_item s) e

  pub parse_some : (n : ℕ) → Some n ≡ size s → value_in (read_item s) ≡ None → ⊥
  unfolding map_ok
  parse_some n e z = let w = none_refused (read_item s) z in none-some n (sym (rw w.1 at e))

  pub parse_refused : (k : Refusal) → refused k ≡ read_item s → refused k ≡ seen s
  parse_refused k q = refused_viewed item_first (read_item s) k q

module _ (s : List ℕ) (z : value_in (read_item s) ≡ None → ⊥) where
  sized : (x : Item × List ℕ) × (read_item s ≡ ok x)
  sized = go (read_item s) refl
    where
      go : (m : Answer (Item × List ℕ)) → read_item s ≡ m → (x : Item × List ℕ) × (read_item s ≡ ok x)
      go (ok x) q = (x, q)
      go (refused r) q = absurd (z (ap value_in q))

  pub item_first_lem : 0 < length s
  item_first_lem = let w = sized in omega (arith, item_length_lem s w.1)

  pub item_second : 1 < length s
  item_second = let w = sized in omega (arith, item_length_lem s w.1)

  pub parse_plain : (n : ℕ) → n ≡ get_or s 1 0 → (get_or s 0 0 ≡ 8 → ⊥) → ok (record { type_ = get_or s 0 0; length = n; prefix_len = 0 }) ≡ seen s
  parse_plain n e h = let w = sized in rw e (ap ok (plain_view w.0.0 w.0.1 s (item_in s w.1).bytes h) ∙ sym (map_ok_lem item_first (read_item s) w.1))

  module _ (h : get_or s 0 0 ≡ 8) where
    whole_view : (2 < length s) × (record { type_ = get_or s 0 0; length = get_or s 1 0; prefix_len = get_or s 2 0 } ≡ item_view sized.0.0)
    whole_view = let g = item_in s sized.1 in priv_view sized.0.0 sized.0.1 s g.bytes g.kind h

    pub item_third : 2 < length s
    item_third = whole_view.0

    pub parse_whole : (n p : ℕ) → n ≡ get_or s 1 0 → p ≡ get_or s 2 0 → ok (record { type_ = get_or s 0 0; length = n; prefix_len = p }) ≡ seen s
    parse_whole n p e q = rw (e, q) (ap ok whole_view.1 ∙ sym (map_ok_lem item_first (read_item s) sized.1))

-- ---- the value

-- what stands behind the end is nothing, however far
drop_least : (n k : ℕ) (s : List ℕ) → drop (n + min k (length s)) s ≡ drop (n + k) s
drop_least n k s = go (leb k (length s)) refl
  where
    go : (b : Bool) → leb k (length s) ≡ b → drop (n + min k (length s)) s ≡ drop (n + k) s
    go true e = let l : k ≤ length s = leb-true k (length s) e in ap (λ (m : ℕ). drop m s) {x = n + min k (length s)} {y = n + k} (omega arith)
    go false e =
        let l : length s < k = leb-false k (length s) e in
        let a : length s ≤ n + min k (length s) = omega arith in
        let b : length s ≤ n + k = omega arith in
        drop_of_length-le s a ∙ sym (drop_of_length-le s b)

module _ (i : SdesItem) (s : List ℕ) where
  abbrev valued : List ℕ
  valued = take (value_len i) (drop (value_start i) s)

  pub value_plain : (r : List ℕ) → (i.type_ ≡ 8 → ⊥) → r ≡ take i.length (drop 2 s) → r ≡ valued
  value_plain r h q = let n : 2 + i.length - 2 ≡ i.length = omega arith in q ∙ rw (ne_eqb i.type_ 8 h, n)

  pub value_none : (r : List ℕ) → i.type_ ≡ 8 → i.length ≤ i.prefix_len → r ≡ take 0 (drop 0 s) → r ≡ valued
  value_none r h l q = let n : 2 + i.length - (3 + i.prefix_len) ≡ 0 = omega arith in q ∙ rw (eq-eqb i.type_ 8 h, n)

  pub value_priv : (r : List ℕ) (m : ℕ) → i.type_ ≡ 8 → m ≡ min i.prefix_len (length s) → r ≡ take (i.length - 1 - i.prefix_len) (drop (3 + m) s) → r ≡ valued
  value_priv r m h e q =
      let n : 2 + i.length - (3 + i.prefix_len) ≡ i.length - 1 - i.prefix_len = omega arith in
      q ∙ rw (eq-eqb i.type_ 8 h, n, e, drop_least 3 i.prefix_len s)

-- the part that `value` hands over is the item's value
pub value_field : (s : List ℕ) (x : Item × List ℕ) → read_item s ≡ ok x → take (value_len (item_first x)) (drop (value_start (item_first x)) s) ≡ value_of x.0
value_field s x e = (item_placed s e).value

-- ---- the prefix

module _ (s : List ℕ) where
  no_prefix : (r : Refusal) → read_item s ≡ refused r → read_prefix s ≡ refused r
  unfolding read_prefix ◌>>=◌
  no_prefix r w = rw w

  pub prefix_refused : (k : Refusal) → refused k ≡ read_item s → refused k ≡ read_prefix s
  prefix_refused k e = sym (no_prefix k (sym e))

  module _ (i : SdesItem) (h : ok i ≡ seen s) where
    read_prefix_lem : (x : Item × List ℕ) × (read_item s ≡ ok x) × (item_first x ≡ i)
    read_prefix_lem = map_ok_inv item_first (read_item s) (sym h)

    module _ (t : i.type_ ≡ 8 → ⊥) where
      not_priv : read_prefix s ≡ refuse 30 i.type_ 0
      not_priv =
          let w = read_prefix_lem in
          let y : item_type w.0.0 ≡ i.type_ = ap (λ (i : SdesItem). i.type_) w.2 in
          prefix_not s w.1 (λ q. t (sym y ∙ q)) ∙ ap (λ (t : ℕ). refuse 30 t 0) y

      pub prefix_none : refused (refusal 30 i.type_ 0) ≡ read_prefix s
      prefix_none = sym not_priv

    module _ (t : i.type_ ≡ 8) where
      is_priv_lem : (p : List ℕ) × (read_prefix s ≡ ok p) × (length p ≡ i.prefix_len)
      is_priv_lem =
          let w = read_prefix_lem in
          let y : item_type w.0.0 ≡ i.type_ = ap (λ (i : SdesItem). i.type_) w.2 in
          let m = map_ok_inv length (read_prefix s) (prefix_length_lem s w.1 (y ∙ t)) in
          (m.0, m.1, m.2 ∙ ap (λ (i : SdesItem). i.prefix_len) w.2)

      pub prefix_end : 3 + i.prefix_len ≤ length s
      prefix_end = let m = is_priv_lem in (prefix_taken s i.prefix_len m.1 m.2).0

      pub prefix_fits : length s < 2 ^ 64 → 3 + i.prefix_len < 2 ^ 64
      prefix_fits l = let p = prefix_end in omega arith

      pub prefix_part : ok (take (3 + i.prefix_len - 3) (drop 3 s)) ≡ read_prefix s
      prefix_part = let m = is_priv_lem in ap ok (prefix_taken s i.prefix_len m.1 m.2).1 ∙ sym m.1

pub ruleset items = (rules, size_short, size_end, why_short, why_past, why_empty, why_third, why_over, end_past, end_plain, end_empty, end_third, end_over, end_whole, end_few, end_last, end_stop, end_goes, step_none, step_zero, why_step, item_asked, parse_none, parse_refused, parse_some, item_first_lem, item_second, parse_plain, item_third, parse_whole, value_plain, value_none, value_priv, prefix_refused, prefix_none, prefix_end, prefix_fits)
