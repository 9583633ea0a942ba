-- The cases of the header's steps, each from what a reader has tested: the body or none, and why; and what an accepted header tells.
use Rattle.std.specs.Prelude.{Option, None, Some}
use Rattle.rfc3550.proofs.Prelude.{rules, ◌≡◌, refl, ap, ◌∙◌, sym, Bool, true, false, ◌&&◌, List, [], ◌∷◌, ⊎_elim, ℕ, ◌+◌, ◌-◌, ◌%◌, ◌<◌, ◌≤◌, sub-zero, arith, lt-ltb, le-leb, lt-leb, eq-eqb, ne_eqb, leb-true, not-true, not-false, length, get_or, leb, ltb, eqb}
use Rattle.rfc3550.specs.Answer.{Refusal, refusal, ok, refused, refuse, need, ◌>>◌}
use Rattle.rfc3550.specs.Read.{version_in, padded, type_in, stated, padding_count, padding_fits, check_header}
use Rattle.rfc3550.proofs.Answers.{need_inv, ok_injective, and_inv, or_inv}
use Rattle.utils.specs.Error.{value_in}
use Rattle.utils.specs.Parser.{check_padding}
use Rattle.utils.proofs.Values.{value_is}

-- ---- the padding's step

module _ (least : ℕ) (s : List ℕ) (b : Bool) (e : b ≡ padded s) where
  pub unpadded : b ≡ false → Some (length s) ≡ value_in (check_padding least s)
  unfolding check_padding padding_fits padding_count need ◌>>◌
  unpadded h = simp (← e, h, sub-zero)

  module _ (p : ℕ) (h : b ≡ true) (q : p ≡ get_or s (length s - 1) 0) where
    pub padding_zero : p ≡ 0 → None ≡ value_in (check_padding least s)
    unfolding check_padding padding_fits padding_count need ◌>>◌
    padding_zero z = simp (← e, h, ← q, z)

    pub padding_odd : (p ≡ 0 → ⊥) → (p % 4 ≡ 0 → ⊥) → None ≡ value_in (check_padding least s)
    unfolding check_padding padding_fits padding_count need ◌>>◌
    padding_odd z o = let l : 0 < p = omega arith in simp (← e, h, ← q, lt-ltb _ _ l, ne_eqb _ _ o)

    pub padding_long : least ≤ length s → (p ≡ 0 → ⊥) → p % 4 ≡ 0 → length s - least < p → None ≡ value_in (check_padding least s)
    unfolding check_padding padding_fits padding_count need ◌>>◌
    padding_long m z o l =
        let a : 0 < p = omega arith in
        let f : length s < p + least = omega arith in
        simp (← e, h, ← q, lt-ltb _ _ a, eq-eqb _ _ o, lt-leb _ _ f)

    pub padding_right : least ≤ length s → (p ≡ 0 → ⊥) → p % 4 ≡ 0 → p ≤ length s - least → Some (length s - p) ≡ value_in (check_padding least s)
    unfolding check_padding padding_fits padding_count need ◌>>◌
    padding_right m z o l =
        let a : 0 < p = omega arith in
        let f : p + least ≤ length s = omega arith in
        simp (← e, h, ← q, lt-ltb _ _ a, eq-eqb _ _ o, le-leb _ _ f)

pub ruleset bodies = (rules, not-true, not-false, unpadded, padding_zero, padding_odd, padding_long, padding_right)

padding_held : (least : ℕ) (s : List ℕ) → least ≤ length s → padding_fits least s ≡ true → padding_count s + least ≤ length s
unfolding padding_fits padding_count
padding_held least s h e = ⊎_elim (λ w. rw w (omega arith)) (λ w. leb-true _ _ (and_inv (ltb 0 (padding_count s) && eqb (padding_count s % 4) 0) _ w).1) (or_inv (padded s) _ e)

-- ---- the header's steps

module _ (least : ℕ) (wanted : Bool) (names : ℕ × ℕ) (s : List ℕ) where
  short : length s < least → check_header least wanted names s ≡ refuse 2 least (length s)
  unfolding check_header need ◌>>◌
  short h = simp (lt-leb _ _ h)

  pub short_none : length s < least → None ≡ value_in (check_header least wanted names s)
  short_none h = sym (ap value_in (short h))

  pub short_why : length s < least → refused (refusal 2 least (length s)) ≡ check_header least wanted names s
  short_why h = sym (short h)

  module _ (v : ℕ) (h : least ≤ length s) (e : v ≡ version_in s) where
    version : (v ≡ 2 → ⊥) → check_header least wanted names s ≡ refuse 1 v 0
    unfolding check_header need ◌>>◌
    version w = simp (le-leb _ _ h, ← e, ne_eqb _ _ w)

    pub version_none : (v ≡ 2 → ⊥) → None ≡ value_in (check_header least wanted names s)
    version_none w = sym (ap value_in (version w))

    pub version_why : (v ≡ 2 → ⊥) → refused (refusal 1 v 0) ≡ check_header least wanted names s
    version_why w = sym (version w)

    module _ (w : v ≡ 2) where
      unwanted : wanted ≡ false → check_header least wanted names s ≡ refuse 6 names.0 names.1
      unfolding check_header need ◌>>◌
      unwanted t = simp (le-leb _ _ h, ← e, eq-eqb _ _ w, t)

      pub unwanted_none : wanted ≡ false → None ≡ value_in (check_header least wanted names s)
      unwanted_none t = sym (ap value_in (unwanted t))

      module _ (n : ℕ) (t : wanted ≡ true) (g : n ≡ stated s) where
        more : length s < n → check_header least wanted names s ≡ refuse 2 n (length s)
        unfolding check_header need ◌>>◌
        more l = simp (le-leb _ _ h, ← e, eq-eqb _ _ w, t, ← g, lt-leb _ _ l)

        pub more_none : length s < n → None ≡ value_in (check_header least wanted names s)
        more_none l = sym (ap value_in (more l))

        pub more_why : length s < n → refused (refusal 2 n (length s)) ≡ check_header least wanted names s
        more_why l = sym (more l)

        less : n < length s → check_header least wanted names s ≡ refuse 3 n (length s)
        unfolding check_header need ◌>>◌
        less l =
            let m : n ≤ length s = omega arith in
            simp (le-leb _ _ h, ← e, eq-eqb _ _ w, t, ← g, le-leb n (length s) m, lt-leb (length s) n l)

        pub less_none : n < length s → None ≡ value_in (check_header least wanted names s)
        less_none l = sym (ap value_in (less l))

        pub less_why : n < length s → refused (refusal 3 n (length s)) ≡ check_header least wanted names s
        less_why l = sym (less l)

        module _ (l : n ≤ length s) (m : length s ≤ n) where
          last : check_header least wanted names s ≡ check_padding least s
          unfolding check_header check_padding need ◌>>◌
          last = simp (le-leb _ _ h, ← e, eq-eqb _ _ w, t, ← g, le-leb (length s) n m, le-leb n (length s) l)

          pub last_body : (o : Option ℕ) → o ≡ value_in (check_padding least s) → o ≡ value_in (check_header least wanted names s)
          last_body o q = q ∙ sym (ap value_in last)

          pub last_why : value_in (check_header least wanted names s) ≡ None → refused (refusal 4 0 0) ≡ check_header least wanted names s
          unfolding check_padding need ◌>>◌
          last_why z = go (padding_fits least s) refl ∙ sym last
            where
              x : value_in (check_padding least s) ≡ None
              x = sym (ap value_in last) ∙ z

              passed : padding_fits least s ≡ true → Some (length s - padding_count s) ≡ value_in (check_padding least s)
              passed a = rw a

              go : (t : Bool) → padding_fits least s ≡ t → refused (refusal 4 0 0) ≡ check_padding least s
              go true a = let y = passed a ∙ x in cc
              go false a = rw a

pub unwanted_why : (least : ℕ) (wanted : Bool) (a r : ℕ) (s : List ℕ) (v : ℕ) → least ≤ length s → v ≡ version_in s → v ≡ 2 → wanted ≡ false
    → refused (refusal 6 a r) ≡ check_header least wanted (a, r) s
unwanted_why least wanted a r s v h e w t = sym (unwanted least wanted (a, r) s v h e w t)

pub ruleset headers = (rules, not-true, not-false, short_none, short_why, version_none, version_why, unwanted_none, unwanted_why, more_none, more_why, less_none, less_why, last_body, last_why)

-- ---- a kind that its type alone names

-- the body is the same whatever 6 names
pub unnamed : (least : ℕ) (wanted : Bool) (a b : ℕ × ℕ) (s : List ℕ) → value_in (check_header least wanted a s) ≡ value_in (check_header least wanted b s)
unfolding check_header need ◌>>◌
unnamed least true a b s = refl
unnamed least false a b s = go (leb least (length s)) (eqb (version_in s) 2)
  where
    go : (t u : Bool) → value_in {A = ℕ} (need t 2 least (length s) >> (need u 1 (version_in s) 0 >> refuse 6 a.0 a.1)) ≡ value_in {A = ℕ} (need t 2 least (length s) >> (need u 1 (version_in s) 0 >> refuse 6 b.0 b.1))
    go false u = refl
    go true false = refl
    go true true = refl

module _ (least : ℕ) (wanted : Bool) (a r : ℕ) (s : List ℕ) where
  pub body_told : (n : ℕ) → Some n ≡ value_in (check_header least wanted (0, 0) s) → ok n ≡ check_header least wanted (a, r) s
  body_told n h = value_is _ n (h ∙ unnamed least wanted (0, 0) (a, r) s)

  pub none_told : None ≡ value_in (check_header least wanted (0, 0) s) → value_in (check_header least wanted (a, r) s) ≡ None
  none_told h = sym (h ∙ unnamed least wanted (0, 0) (a, r) s)

pub ruleset checks = (rules, body_told, none_told)

module _ (least type : ℕ) (s : List ℕ) (t : ℕ) (e : t ≡ type_in s) where
  pub of_type : (o : Option ℕ) → o ≡ value_in (check_header least (eqb t type) (0, 0) s) → o ≡ value_in (check_header least (eqb (type_in s) type) (type_in s, type) s)
  of_type o h = h ∙ unnamed least (eqb t type) (0, 0) (t, type) s ∙ ap (λ (t : ℕ). value_in (check_header least (eqb t type) (t, type) s)) e

  pub none_type : value_in (check_header least (eqb (type_in s) type) (type_in s, type) s) ≡ None → value_in (check_header least (eqb t type) (t, type) s) ≡ None
  none_type h = rw e h

  pub why_type : (r : Refusal) → refused r ≡ check_header least (eqb t type) (t, type) s → refused r ≡ check_header least (eqb (type_in s) type) (type_in s, type) s
  why_type r h = h ∙ ap (λ (t : ℕ). check_header least (eqb t type) (t, type) s) e

pub ruleset types = (rules, of_type, none_type, why_type)

-- ---- what an accepted header tells

pub record Accepted (least : ℕ) (s : List ℕ) (b : ℕ) : Type 0 where
  pub enough : least ≤ b
  pub within : b ≤ length s

pub accepted : (least : ℕ) (wanted : Bool) (names : ℕ × ℕ) (s : List ℕ) (b : ℕ) → check_header least wanted names s ≡ ok b → Accepted least s b
unfolding check_header
accepted least wanted names s b e =
    let q₀ = need_inv _ _ _ _ _ e in
    let q₁ = need_inv _ _ _ _ _ q₀.1 in
    let q₂ = need_inv _ _ _ _ _ q₁.1 in
    let q₃ = need_inv _ _ _ _ _ q₂.1 in
    let q₄ = need_inv _ _ _ _ _ q₃.1 in
    let q₅ = need_inv _ _ _ _ _ q₄.1 in
    let h : least ≤ length s = leb-true _ _ q₀.0 in
    let l = padding_held least s h q₅.0 in
    let v : length s - padding_count s ≡ b = ok_injective q₅.1 in
    record { enough = omega arith; within = omega arith }
