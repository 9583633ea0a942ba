-- The cases of an item's size and bytes, each from what the code has tested or called.
use Rattle.std.specs.Prelude.{Option, None, Some}
use Rattle.rfc3550.proofs.Prelude.{rules, ℕ, suc, ◌+◌, ◌-◌, ◌<◌, ◌≤◌, ◌≡◌, refl, sym, ap, ◌∙◌, Bool, true, false, ◌||◌, ◌&&◌, not, List, [], ◌∷◌, ◌++◌, arith, le-leb, lt-leb, leb-true, leb-false, eq-eqb, ne_eqb, eqb-true, eqb-false, not-true, not-false, length, take, drop, set, length-append, take-append-drop, length-take-le, leb, eqb}
use Rattle.rfc3550.specs.Answer.{Refusal, Answer, ok, refused, refusal, need, ◌>>◌, pick}
use Rattle.rfc3550.specs.Bytes.{store}
use Rattle.rfc3550.specs.Packet.{item, priv, item_bytes}
use Rattle.rfc3550.specs.Write.{item_given, item_tests, item_size}
use Rattle.rfc3550.proofs.Answers.{need_inv, and_inv, ok_injective}
use Rattle.utils.specs.Error.{value_in}
use Rattle.utils.proofs.WriterStores.{store_puts, store_store}
use Rattle.chunk_write.specs.Sizes.{lent, item_length, size_of, priv_head, HasRoom}

-- ---- the size

module _ (t p v : ℕ) where
  pub type_zero : t ≡ 0 → refused (refusal 23 0 0) ≡ size_of t p v
  unfolding size_of need ◌>>◌
  type_zero h = simp (eq-eqb _ _ h)

  module _ (z : t ≡ 0 → ⊥) where
    module _ (e : t ≡ 8) where
      pub prefix_over : 254 < p → refused (refusal 21 p 254) ≡ size_of t p v
      unfolding size_of need ◌>>◌
      prefix_over h = simp (ne_eqb _ _ z, eq-eqb _ _ e, lt-leb _ _ h)

      pub priv_over : p ≤ 254 → 254 - p < v → refused (refusal 20 v (254 - p)) ≡ size_of t p v
      unfolding size_of need ◌>>◌
      priv_over h f = simp (ne_eqb _ _ z, eq-eqb _ _ e, le-leb _ _ h, lt-leb _ _ f)

      pub priv_size : p ≤ 254 → v ≤ 254 - p → ok (3 + p + v) ≡ size_of t p v
      unfolding size_of need ◌>>◌
      priv_size h f = simp (ne_eqb _ _ z, eq-eqb _ _ e, le-leb _ _ h, le-leb _ _ f)

    module _ (n : t ≡ 8 → ⊥) where
      pub plain_over : 255 < v → refused (refusal 20 v 255) ≡ size_of t p v
      unfolding size_of need ◌>>◌
      plain_over f = simp (ne_eqb _ _ z, ne_eqb _ _ n, lt-leb _ _ f)

      pub plain_size : v ≤ 255 → ok (2 + v) ≡ size_of t p v
      unfolding size_of need ◌>>◌
      plain_size f = simp (ne_eqb _ _ z, ne_eqb _ _ n, le-leb _ _ f)

  pub type_zero_none : t ≡ 0 → None ≡ value_in (size_of t p v)
  type_zero_none h = ap value_in (type_zero h)

  -- why there is none, where one reason is left
  module _ (z : t ≡ 0 → ⊥) (h : value_in (size_of t p v) ≡ None) where
    pub priv_why : t ≡ 8 → p ≤ 254 → refused (refusal 20 v (254 - p)) ≡ size_of t p v
    priv_why e f = go (leb v (254 - p)) refl
      where
        go : (x : Bool) → leb v (254 - p) ≡ x → refused (refusal 20 v (254 - p)) ≡ size_of t p v
        go true q = let y : Some (3 + p + v) ≡ None = ap value_in (priv_size z e f (leb-true _ _ q)) ∙ h in cc
        go false q = priv_over z e f (leb-false _ _ q)

    pub plain_why : (t ≡ 8 → ⊥) → refused (refusal 20 v 255) ≡ size_of t p v
    plain_why n = go (leb v 255) refl
      where
        go : (x : Bool) → leb v 255 ≡ x → refused (refusal 20 v 255) ≡ size_of t p v
        go true q = let y : Some (2 + v) ≡ None = ap value_in (plain_size z n (leb-true _ _ q)) ∙ h in cc
        go false q = plain_over z n (leb-false _ _ q)

  pub not_alone : t ≡ 0 → false ≡ (not (eqb t 0) && not (eqb t 8))
  not_alone e = rw (eq-eqb _ _ e)

  pub alone : (t ≡ 0 → ⊥) → not (eqb t 8) ≡ (not (eqb t 0) && not (eqb t 8))
  alone z = rw (ne_eqb _ _ z)

  module _ (u : Bool) (e : u ≡ (not (eqb t 0) && not (eqb t 8))) where
    module _ (q : u ≡ true) where
      both : (not (eqb t 0) ≡ true) × (not (eqb t 8) ≡ true)
      both = and_inv (not (eqb t 0)) (not (eqb t 8)) (sym e ∙ q)

      pub alone_over : 255 < v → None ≡ value_in (size_of t p v)
      alone_over f = ap value_in (plain_over (eqb-false _ _ (not-true _ both.0)) (eqb-false _ _ (not-true _ both.1)) f)

      pub alone_size : v ≤ 255 → Some (2 + v) ≡ value_in (size_of t p v)
      alone_size f = ap value_in (plain_size (eqb-false _ _ (not-true _ both.0)) (eqb-false _ _ (not-true _ both.1)) f)

    module _ (q : u ≡ false) (z : t ≡ 0 → ⊥) where
      left_priv : t ≡ 8
      left_priv = eqb-true _ _ (not-false _ (alone z ∙ sym e ∙ q))

      pub left_prefix_over : 254 < p → None ≡ value_in (size_of t p v)
      left_prefix_over f = ap value_in (prefix_over z left_priv f)

      pub left_over : p ≤ 254 → 254 - p < v → None ≡ value_in (size_of t p v)
      left_over f g = ap value_in (priv_over z left_priv f g)

      pub left_size : p ≤ 254 → v ≤ 254 - p → Some (3 + p + v) ≡ value_in (size_of t p v)
      left_size f g = ap value_in (priv_size z left_priv f g)

-- what a size says
pub record SizeKnown (t p v n : ℕ) : Type 0 where
  pub is : n ≡ item_length t p v
  pub most : n ≤ 3 + p + v
  pub least : 2 ≤ n
  pub priv : t ≡ 8 → p + v ≤ 254
  pub plain : (t ≡ 8 → ⊥) → v ≤ 255

pub size_known : (t p v n : ℕ) → size_of t p v ≡ ok n → SizeKnown t p v n
unfolding size_of
size_known t p v n e =
    let a = need_inv _ _ _ _ _ e in
    let b = need_inv _ _ _ _ _ a.1 in
    let c = need_inv _ _ _ _ _ b.1 in
    go (eqb t 8) refl b.0 c.0 (ok_injective c.1)
  where
    go : (x : Bool) → eqb t 8 ≡ x → not x || leb p 254 ≡ true → leb v (pick x (254 - p) 255) ≡ true → pick x (3 + p + v) (2 + v) ≡ n → SizeKnown t p v n
    go true q b c d =
        let m : p ≤ 254 = leb-true _ _ b in
        let k : v ≤ 254 - p = leb-true _ _ c in
        record { is = rw q (sym d); most = omega arith; least = omega arith; priv = λ f. omega arith; plain = λ f. absurd (f (eqb-true _ _ q)) }
    go false q b c d =
        let k : v ≤ 255 = leb-true _ _ c in
        record { is = rw q (sym d); most = omega arith; least = omega arith; priv = λ f. absurd (eqb-false _ _ q f); plain = λ f. k }

-- ---- the definition of an item's size goes by the lengths

pub length_item : (t : ℕ) (p v : List ℕ) → length (item_bytes (item_given (lent t p v))) ≡ item_length t (length p) (length v)
length_item t p v = go (eqb t 8)
  where
    go : (x : Bool) → length (item_bytes (pick x (priv p v) (item t v))) ≡ pick x (3 + length p + length v) (2 + length v)
    go true = simp length-append (omega arith)
    go false = omega arith

then_assoc₃ : {B : Type 0} (a b c : Answer (Unit {0})) (x : Answer B) → ((a >> (b >> c)) >> x) ≡ (a >> (b >> (c >> x)))
unfolding ◌>>◌
then_assoc₃ (refused r) b c x = refl
then_assoc₃ (ok u) (refused r) c x = refl
then_assoc₃ (ok u) (ok w) c x = refl

pub item_is_lem : (t : ℕ) (p v : List ℕ) → item_size (lent t p v) ≡ size_of t (length p) (length v)
unfolding size_of item_size item_tests
item_is_lem t p v = rw (length_item t p v) (then_assoc₃ _ _ _ _)

module _ (t : ℕ) (p v : List ℕ) where
  pub item_value : (m : Option ℕ) → m ≡ value_in (size_of t (length p) (length v)) → m ≡ value_in (item_size (lent t p v))
  item_value m e = e ∙ sym (ap value_in (item_is_lem t p v))

  pub item_none : value_in (item_size (lent t p v)) ≡ None → value_in (size_of t (length p) (length v)) ≡ None
  item_none e = sym (ap value_in (item_is_lem t p v)) ∙ e

  pub item_why : (k : Refusal) → refused k ≡ size_of t (length p) (length v) → refused k ≡ item_size (lent t p v)
  item_why k e = e ∙ sym (item_is_lem t p v)

-- ---- the bytes

pub plain_laid : (t : ℕ) (v l l₁ : List ℕ) → 2 + length v ≤ length l → l₁ ≡ store 2 v (set (set l 0 t) 1 (length v)) → l₁ ≡ store 0 (item_bytes (item t v)) l
plain_laid t v l l₁ h e = e ∙ rw (store_puts 0 t (length v ∷ []) l (omega arith)) (store_store 0 2 (t ∷ length v ∷ []) v l refl (omega arith))

pub priv_head_laid : (p n : ℕ) (l : List ℕ) → 3 ≤ length l → set (set (set l 0 8) 1 (1 + n)) 2 p ≡ store 0 (priv_head p n) l
priv_head_laid p n l h = store_puts 0 8 ((1 + n) ∷ p ∷ []) l (omega arith)

pub priv_text_laid : (p : ℕ) (t l l₀ l₁ : List ℕ) → p ≤ length t → 3 + length t ≤ length l → l₀ ≡ store 0 (priv_head p (length t)) l → l₁ ≡ store 3 t l₀ → l₁ ≡ store 0 (item_bytes (priv (take p t) (drop p t))) l
priv_text_laid p t l l₀ l₁ f h e₁ e₂ =
    let a : take p t ++ drop p t ≡ t = take-append-drop p t in
    let b : length (take p t) ≡ p = length-take-le p t f in
    let m : 1 + length t ≡ suc (length t) = omega arith in
    e₂ ∙ rw (e₁, a, b, store_store 0 3 (priv_head p (length t)) t l refl (omega arith), m)

pub priv_laid : (p v l l₀ l₁ l₂ : List ℕ) → 3 + length p + length v ≤ length l → l₀ ≡ store 0 (priv_head (length p) (length p + length v)) l → l₁ ≡ store 3 p l₀ → l₂ ≡ store (3 + length p) v l₁ → l₂ ≡ store 0 (item_bytes (priv p v)) l
priv_laid p v l l₀ l₁ l₂ h e₀ e₁ e₂ =
    let m : 1 + (length p + length v) ≡ suc (length (p ++ v)) = rw length-append (omega arith) in
    let s : l₁ ≡ store 0 (8 ∷ (1 + (length p + length v)) ∷ length p ∷ p) l = e₁ ∙ rw e₀ (store_store 0 3 (priv_head (length p) (length p + length v)) p l refl (omega arith)) in
    e₂ ∙ rw (s, store_store 0 (3 + length p) (8 ∷ (1 + (length p + length v)) ∷ length p ∷ p) v l (omega arith) (omega arith), m)

module _ (t : ℕ) (p v : List ℕ) where
  module _ (space : ℕ) (f : HasRoom (item_size (lent t p v)) space) where
    known : SizeKnown t (length p) (length v) f.n
    known = size_known t (length p) (length v) f.n (sym (item_is_lem t p v) ∙ f.is)

    pub priv_fits : t ≡ 8 → (length p + length v ≤ 254) × (3 + length p + length v ≤ space)
    priv_fits e =
        let n : f.n ≡ 3 + length p + length v = known.is ∙ rw (eq-eqb _ _ e) in
        (known.priv e, omega (arith, f.room))

    pub plain_fits : (t ≡ 8 → ⊥) → (length v ≤ 255) × (2 + length v ≤ space)
    plain_fits e =
        let n : f.n ≡ 2 + length v = known.is ∙ rw (ne_eqb _ _ e) in
        (known.plain e, omega (arith, f.room))

  pub priv_done : (l l₁ : List ℕ) → t ≡ 8 → l₁ ≡ store 0 (item_bytes (priv p v)) l → l₁ ≡ store 0 (item_bytes (item_given (lent t p v))) l
  priv_done l l₁ e h = rw (eq-eqb _ _ e) h

  pub plain_done : (l l₁ : List ℕ) → (t ≡ 8 → ⊥) → l₁ ≡ store 0 (item_bytes (item t v)) l → l₁ ≡ store 0 (item_bytes (item_given (lent t p v))) l
  plain_done l l₁ e h = rw (ne_eqb _ _ e) h

pub ruleset items = (rules, type_zero, type_zero_none, prefix_over, priv_why, plain_why, not_alone, alone, alone_over, alone_size, left_prefix_over, left_over, left_size, item_value, item_none, item_why, plain_laid, priv_head_laid, priv_text_laid, priv_laid, priv_fits, plain_fits, priv_done, plain_done)
