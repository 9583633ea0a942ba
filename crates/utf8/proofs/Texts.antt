-- RFC 3629's encoding is the library's, so both call the same bytes text.
use Rattle.rfc3550.proofs.Prelude.{ℕ, ◌<◌, ◌≤◌, ◌≡◌, refl, sym, ◌∙◌, inl, inr, ⊎_elim, Bool, true, false, List, [], ◌∷◌, arith, leb, le-leb, lt-ltb, le-ltb, leb-true, leb-false, div-one, zero-add, true≢false}
use Rattle.std.specs.Str.{IsUtf8, IsAscii, IsNotAscii}
use Rattle.std.proofs.lemmas.Str.{IsUtf8-from_ascii}
use Rattle.std.proofs.Math.Utf8.{scalar, scalars, scalar_cases, low_scalar}
use Rattle.std.proofs.Math.Utf8 as library
use Rattle.std.specs.Bool.{MatchBool}
use Rattle.std.specs.Result.{MatchResult, is_ok}
use Rattle.std.specs.declared.result.Result.{Result}
use Rattle.std.specs.declared.result.Result.TheVariants.{Ok, Err}
use Rattle.rfc3550.proofs.Answers.{and_inv}
use Rattle.rfc3550.specs.Packet.{All}
use Rattle.rfc3550.specs.Utf8.{CodePoint, continuation, encode, encodes, is_utf8}
use Rattle.rfc3550.proofs.Texts.{utf8_text}

-- ---- a code point

point_scalar : (c : ℕ) → CodePoint c → scalar c ≡ true
point_scalar c (inl h) = low_scalar c (omega arith)
point_scalar c (inr h) = let k : 0xD800 ≤ c = omega arith in let l : c < 0x110000 = omega arith in rw (le-ltb c 0xD800 k, le-leb 0xE000 c h.0, lt-ltb c 0x110000 l)

scalar_point : (c : ℕ) → scalar c ≡ true → CodePoint c
scalar_point c e = ⊎_elim (λ h. inl (omega arith)) (λ h. inr (h.0, omega arith)) (scalar_cases c e)

same_point : (c : ℕ) → encode c ≡ library.encode c
unfolding encode continuation library.encode
same_point c = go (leb c 0x7F) refl (leb c 0x7FF) refl (leb c 0xFFFF) refl
  where
    go : (x : Bool) → leb c 0x7F ≡ x → (y : Bool) → leb c 0x7FF ≡ y → (z : Bool) → leb c 0xFFFF ≡ z → encode c ≡ library.encode c
    go true e y f z g = let h : c < 0x80 = omega (arith, leb-true c 0x7F e) in rw (e, lt-ltb c 0x80 h, div-one, zero-add)
    go false e true f z g =
        let h : 0x80 ≤ c = omega (arith, leb-false c 0x7F e) in
        let k : c < 0x800 = omega (arith, leb-true c 0x7FF f) in
        rw (e, f, le-ltb c 0x80 h, lt-ltb c 0x800 k, div-one)
    go false e false f true g =
        let h : 0x800 ≤ c = omega (arith, leb-false c 0x7FF f) in
        let i : 0x80 ≤ c = omega arith in
        let k : c < 0x10000 = omega (arith, leb-true c 0xFFFF g) in
        rw (e, f, g, le-ltb c 0x80 i, le-ltb c 0x800 h, lt-ltb c 0x10000 k, div-one)
    go false e false f false g =
        let h : 0x10000 ≤ c = omega (arith, leb-false c 0xFFFF g) in
        let i : 0x80 ≤ c = omega arith in
        let j : 0x800 ≤ c = omega arith in
        rw (e, f, g, le-ltb c 0x80 i, le-ltb c 0x800 j, le-ltb c 0x10000 h, div-one)

-- ---- a sequence of them

points_scalars : (cs : List ℕ) → All CodePoint cs → scalars cs ≡ true
points_scalars [] v = refl
points_scalars (c ∷ cs) v = rw (point_scalar c v.0) (points_scalars cs v.1)

scalars_points : (cs : List ℕ) → scalars cs ≡ true → All CodePoint cs
scalars_points [] e = tt
scalars_points (c ∷ cs) e = let b = and_inv (scalar c) (scalars cs) e in (scalar_point c b.0, scalars_points cs b.1)

same_points : (cs : List ℕ) → encodes cs ≡ library.encodes cs
unfolding encodes
same_points [] = refl
same_points (c ∷ cs) = rw (same_point c, same_points cs)

-- ---- the verdict

utf8_yes : (bs : List ℕ) → IsUtf8 bs → is_utf8 bs ≡ true
utf8_yes bs t = (utf8_text bs).1 (record { points = t.0; valid = scalars_points t.0 t.1.0; bytes = same_points t.0 ∙ t.1.1 })

yes_utf8 : (bs : List ℕ) → is_utf8 bs ≡ true → IsUtf8 bs
yes_utf8 bs e = let t = (utf8_text bs).0 e in (t.points, (points_scalars t.points t.valid, sym (same_points t.points) ∙ t.bytes))

pub ascii_is : (t : Bool) (bs : List ℕ) → MatchBool t (IsAscii bs) (IsNotAscii bs) → t ≡ true → t ≡ is_utf8 bs
ascii_is true bs h e = sym (utf8_yes bs (IsUtf8-from_ascii bs h))
ascii_is false bs h e = absurd (true≢false (sym e))

no_text : (bs : List ℕ) → ¬ (IsUtf8 bs) → false ≡ is_utf8 bs
no_text bs h = go (is_utf8 bs) refl
  where
    go : (t : Bool) → is_utf8 bs ≡ t → false ≡ t
    go false e = refl
    go true e = absurd (h (yes_utf8 bs e))

pub text_is : {A E : Type 0} (P : A → Type 0) (Q : E → Type 0) (r : Result A E) (bs : List ℕ) → MatchResult r (λ x. P x × IsUtf8 bs) (λ e. ¬ (IsUtf8 bs) × Q e) → is_ok r ≡ is_utf8 bs
text_is P Q (Ok x) bs h = sym (utf8_yes bs h.1)
text_is P Q (Err e) bs h = no_text bs h.0
