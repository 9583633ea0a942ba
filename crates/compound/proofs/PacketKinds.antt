-- The kind of a packet by its type, and the kinds that have no layout.
use Rattle.rfc3550.proofs.Prelude.{rules, ◌≡◌, refl, sym, ap, ◌∙◌, Bool, true, false, not, List, ⊎_elim, ℕ, ◌<◌, arith, eq-eqb, ne_eqb, eqb-true, le-leb, lt-leb, eqb}
use Rattle.rfc3550.specs.Answer.{pick}
use Rattle.rfc3550.specs.Packet.{known}
use Rattle.rfc3550.specs.Read.{Kind as ReadKind, SR, RR, SDES, BYE, APP, UNKNOWN, kind_of, type_in, low_in}
use Rattle.utils.proofs.Parts.{split}
use Rattle.compound.specs.Kind.{kind_in}
use Rattle.compound.specs.declared.kind.Kind.{Kind}
use Rattle.compound.specs.declared.kind.Kind.TheVariants as kind
use Rattle.compound.specs.contracts.kind.Kind.{the_type}
use denote.Enum.Bare.{sameb}

-- ---- by the type

module _ (s : List ℕ) (t : ℕ) (e : t ≡ type_in s) where
  pub sr_kind : t ≡ 200 → SR ≡ kind_of (type_in s) (low_in s)
  unfolding kind_of
  sr_kind q = rw (← e, q)

  pub rr_kind : t ≡ 201 → RR ≡ kind_of (type_in s) (low_in s)
  unfolding kind_of
  rr_kind q = rw (← e, q)

  pub sdes_kind : t ≡ 202 → SDES ≡ kind_of (type_in s) (low_in s)
  unfolding kind_of
  sdes_kind q = rw (← e, q)

  pub bye_kind : t ≡ 203 → BYE ≡ kind_of (type_in s) (low_in s)
  unfolding kind_of
  bye_kind q = rw (← e, q)

  pub app_kind : t ≡ 204 → APP ≡ kind_of (type_in s) (low_in s)
  unfolding kind_of
  app_kind q = rw (← e, q)

  pub unknown_kind : (t ≡ 200 → ⊥) → (t ≡ 201 → ⊥) → (t ≡ 202 → ⊥) → (t ≡ 203 → ⊥) → (t ≡ 204 → ⊥) → UNKNOWN ≡ kind_of (type_in s) (low_in s)
  unfolding kind_of
  unknown_kind f g h i j = rw (← e, ne_eqb t 200 f, ne_eqb t 201 g, ne_eqb t 202 h, ne_eqb t 203 i, ne_eqb t 204 j)

pub ruleset kinds_by_type = (rules, sr_kind, rr_kind, sdes_kind, bye_kind, app_kind, unknown_kind)

-- ---- the kinds that have no layout

abbrev is_unknown : ReadKind → Bool
is_unknown SR = false
is_unknown RR = false
is_unknown SDES = false
is_unknown BYE = false
is_unknown APP = false
is_unknown UNKNOWN = true

unknown_is : (t low : ℕ) → is_unknown (kind_of t low) ≡ not (known t low)
unfolding kind_of
unknown_is t low = go (eqb t 200) (eqb t 201) (eqb t 202) (eqb t 203) (eqb t 204) refl refl refl refl refl
  where
    at : (k : ℕ) → eqb t k ≡ true → not (known k low) ≡ not (known t low)
    at k p = ap (λ (t : ℕ). not (known t low)) (sym (eqb-true t k p))

    other : (k : ℕ) → eqb t k ≡ false → t ≡ k → ⊥
    other k p q = let z : true ≡ false = sym (eq-eqb t k q) ∙ p in absurd (omega (arith, ap (λ (b : Bool). pick {A = ℕ} b 1 0) z))

    go : (a b c d e : Bool) → eqb t 200 ≡ a → eqb t 201 ≡ b → eqb t 202 ≡ c → eqb t 203 ≡ d → eqb t 204 ≡ e
        → is_unknown (pick a SR (pick b RR (pick c SDES (pick d BYE (pick e APP UNKNOWN))))) ≡ not (known t low)
    go true b c d e p q r s u = at 200 p
    go false true c d e p q r s u = at 201 q
    go false false true d e p q r s u = at 202 r
    go false false false true e p q r s u = at 203 s
    go false false false false true p q r s u = at 204 u
    go false false false false false p q r s u =
        let f = other 200 p in
        let g = other 201 q in
        let h = other 202 r in
        let i = other 203 s in
        let j = other 204 u in
        ⊎_elim (λ w. rw (lt-leb 200 t w)) (λ w. let l : 204 < t = omega arith in rw (le-leb 200 t w, lt-leb t 204 l)) (split t 200)

-- as the code tells it
unknown_same : (c : Kind) → sameb the_type c kind.Unknown ≡ is_unknown (kind_in c)
unknown_same kind.Sr = refl
unknown_same kind.Rr = refl
unknown_same kind.Sdes = refl
unknown_same kind.Bye = refl
unknown_same kind.App = refl
unknown_same kind.Unknown = refl

-- of a kind that a match found
pub kind_found : (s : List ℕ) (c d : Kind) → kind_in c ≡ kind_of (type_in s) (low_in s) → c ≡ d → kind_in d ≡ kind_of (type_in s) (low_in s)
kind_found s c d h e = ap kind_in (sym e) ∙ h

pub unknown_told : (s : List ℕ) (c : Kind) (b : Bool) → kind_in c ≡ kind_of (type_in s) (low_in s) → b ≡ sameb the_type c kind.Unknown → b ≡ not (known (type_in s) (low_in s))
unknown_told s c b h q = q ∙ unknown_same c ∙ ap is_unknown h ∙ unknown_is (type_in s) (low_in s)
