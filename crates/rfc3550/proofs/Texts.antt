-- The verdict is yes exactly where the bytes are some sequence of code points, encoded, and no two sequences have the same bytes. Laws are over a
-- row of RFC 3629's table: its first octet without the code point's bits, how many octets follow, and its first code point.
use Rattle.rfc3550.proofs.Prelude.{ℕ, zero, suc, ◌+◌, ◌-◌, ◌*◌, ◌/◌, ◌%◌, ◌^◌, ◌<◌, ◌≤◌, ◌≡◌, refl, sym, ap, ◌∙◌, subst, ◌↔◌, inl, inr, Bool, true, false, ◌&&◌, ◌||◌, List, [], ◌∷◌, ◌++◌, head-eq_of_cons-eq, tail-eq_of_cons-eq, cons≢nil, arith, T, leb, le-leb, lt-leb, leb-true, leb-false, div-one, pow-suc, sub-zero}
use native.Mathlib.Nat.{div-div-eq-div-mul}
use Rattle.rfc3550.specs.Answer.{pick}
use Rattle.rfc3550.specs.Packet.{All}
use Rattle.rfc3550.specs.Utf8.{CodePoint, continuation, row, encode, encodes, Text, is_code_point, State, between, inside, malformed, within, lead, next, run, ended, is_utf8}

-- ---- tests

and_inv : (a b : Bool) → a && b ≡ true → (a ≡ true) × (b ≡ true)
and_inv true b e = (refl, e)
and_inv false b e = absurd (subst T (sym e) tt)

point_yes : (c : ℕ) → CodePoint c → is_code_point c ≡ true
point_yes c (inl h) = rw (le-leb c 0xD7FF h)
point_yes c (inr h) = go (leb c 0xD7FF)
  where
    go : (t : Bool) → t || (leb 0xE000 c && leb c 0x10FFFF) ≡ true
    go true = refl
    go false = rw (le-leb 0xE000 c h.0, le-leb c 0x10FFFF h.1)

point_is : (c : ℕ) → is_code_point c ≡ true → CodePoint c
point_is c e = go (leb c 0xD7FF) refl e
  where
    go : (t : Bool) → leb c 0xD7FF ≡ t → t || (leb 0xE000 c && leb c 0x10FFFF) ≡ true → CodePoint c
    go true q e = inl (leb-true c 0xD7FF q)
    go false q e = let a = and_inv _ _ e in inr (leb-true 0xE000 c a.0, leb-true c 0x10FFFF a.1)

point_most : (c : ℕ) → CodePoint c → c ≤ 0x10FFFF
point_most c (inl h) = omega arith
point_most c (inr h) = h.1

-- ---- the rows

-- a row whose first octets go up to `most`: its code points from `least` on are encoded so, and its first octets lead into it and tell it
abbrev told : ℕ → ℕ × ℕ
told b = pick (leb b 0x7F) (0, 0) (pick (leb b 0xDF) (0xC0, 1) (pick (leb b 0xEF) (0xE0, 2) (0xF0, 3)))

pub record Row (high n least most : ℕ) : Type 0 where
  pub encoded : (c : ℕ) → least ≤ c → high + c / 64 ^ n ≤ most → encode c ≡ row high n c
  pub leads : (b : ℕ) → high ≤ b → b ≤ most → lead b ≡ within n (b - high) least
  pub tells : (b : ℕ) → high ≤ b → b ≤ most → told b ≡ (high, n)

pub row_0 : Row 0 0 0 0x7F
unfolding encode lead
row_0 =
    record {
      encoded = λ c h k. let z = div-one c in rw (le-leb c 0x7F (omega arith));
      leads = λ b h k. rw (sub-zero b, le-leb b 0x7F k);
      tells = λ b h k. rw (le-leb b 0x7F k);
    }

pub row_1 : Row 0xC0 1 0x80 0xDF
unfolding encode lead
row_1 =
    record {
      encoded = λ c h k. rw (lt-leb c 0x7F (omega arith), le-leb c 0x7FF (omega arith));
      leads = λ b h k. rw (lt-leb b 0x7F (omega arith), lt-leb b 0xBF (omega arith), le-leb b 0xDF k);
      tells = λ b h k. rw (lt-leb b 0x7F (omega arith), le-leb b 0xDF k);
    }

pub row_2 : Row 0xE0 2 0x800 0xEF
unfolding encode lead
row_2 =
    record {
      encoded = λ c h k. rw (lt-leb c 0x7F (omega arith), lt-leb c 0x7FF (omega arith), le-leb c 0xFFFF (omega arith));
      leads = λ b h k. rw (lt-leb b 0x7F (omega arith), lt-leb b 0xBF (omega arith), lt-leb b 0xDF (omega arith), le-leb b 0xEF k);
      tells = λ b h k. rw (lt-leb b 0x7F (omega arith), lt-leb b 0xDF (omega arith), le-leb b 0xEF k);
    }

pub row_3 : Row 0xF0 3 0x10000 0xF7
unfolding encode lead
row_3 =
    record {
      encoded = λ c h k. rw (lt-leb c 0x7F (omega arith), lt-leb c 0x7FF (omega arith), lt-leb c 0xFFFF (omega arith));
      leads = λ b h k. rw (lt-leb b 0x7F (omega arith), lt-leb b 0xBF (omega arith), lt-leb b 0xDF (omega arith), lt-leb b 0xEF (omega arith), le-leb b 0xF7 k);
      tells = λ b h k. rw (lt-leb b 0x7F (omega arith), lt-leb b 0xDF (omega arith), lt-leb b 0xEF (omega arith));
    }

-- the row of a code point
record RowOf (c : ℕ) : Type 0 where
  high : ℕ
  n : ℕ
  least : ℕ
  most : ℕ
  is : Row high n least most
  above : least ≤ c
  fits : high + c / 64 ^ n ≤ most

row_of : (c : ℕ) → CodePoint c → RowOf c
row_of c p = go (leb c 0x7F) refl (leb c 0x7FF) refl (leb c 0xFFFF) refl
  where
    go : (x : Bool) → leb c 0x7F ≡ x → (y : Bool) → leb c 0x7FF ≡ y → (z : Bool) → leb c 0xFFFF ≡ z → RowOf c
    go true e y f z g = let h : c ≤ 0x7F = leb-true _ _ e in let q = div-one c in record { high = 0; n = 0; least = 0; most = 0x7F; is = row_0; above = omega arith; fits = omega arith }
    go false e true f z g = let h : 0x7F < c = leb-false _ _ e in let k : c ≤ 0x7FF = leb-true _ _ f in record { high = 0xC0; n = 1; least = 0x80; most = 0xDF; is = row_1; above = omega arith; fits = omega arith }
    go false e false f true g = let h : 0x7FF < c = leb-false _ _ f in let k : c ≤ 0xFFFF = leb-true _ _ g in record { high = 0xE0; n = 2; least = 0x800; most = 0xEF; is = row_2; above = omega arith; fits = omega arith }
    go false e false f false g = let h : 0xFFFF < c = leb-false _ _ g in let k = point_most c p in record { high = 0xF0; n = 3; least = 0x10000; most = 0xF7; is = row_3; above = omega arith; fits = omega arith }

-- ---- six bits more

-- the bits above n + 1 octets are those above n, without the last six
above : (c n : ℕ) → c / 64 ^ suc n ≡ c / 64 ^ n / 64
above c n = ap (λ (m : ℕ). c / m) (pow-suc 64 n) ∙ sym (div-div-eq-div-mul c (64 ^ n) 64)

octet : (n v least b w : ℕ) → 0x80 ≤ b → b ≤ 0xBF → v * 64 + (b - 0x80) ≡ w → next (inside n v least) b ≡ within n w least
unfolding next
octet n v least b w h k e = rw (le-leb 0x80 b h, le-leb b 0xBF k, e)

-- ---- yes, where the bytes are such a sequence

rest_yes : (n least c : ℕ) (r : List ℕ) → least ≤ c → CodePoint c → run (within n (c / 64 ^ n) least) (continuation n c ++ r) ≡ run between r
unfolding within continuation run
rest_yes zero least c r h p = rw (div-one c, le-leb least c h, point_yes c p)
rest_yes (suc n) least c r h p =
    let s : c / 64 ^ suc n * 64 + (0x80 + c / 64 ^ n % 64 - 0x80) ≡ c / 64 ^ n = rw (above c n) (omega arith) in
    ap (λ (q : State). run q (continuation n c ++ r)) (octet n (c / 64 ^ suc n) least (0x80 + c / 64 ^ n % 64) (c / 64 ^ n) (omega arith) (omega arith) s) ∙ rest_yes n least c r h p

point_run : (c : ℕ) (r : List ℕ) → CodePoint c → run between (encode c ++ r) ≡ run between r
unfolding run next
point_run c r p =
    let w = row_of c p in
    let b : ℕ = w.high + c / 64 ^ w.n in
    let s : w.high + c / 64 ^ w.n - w.high ≡ c / 64 ^ w.n = omega arith in
    ap (λ (l : List ℕ). run between (l ++ r)) (w.is.encoded c w.above w.fits)
    ∙ ap (λ (q : State). run q (continuation w.n c ++ r)) (w.is.leads (w.high + c / 64 ^ w.n) (omega arith) w.fits ∙ ap (λ (v : ℕ). within w.n v w.least) s)
    ∙ rest_yes w.n w.least c r w.above p

points_run : (cs : List ℕ) → All CodePoint cs → run between (encodes cs) ≡ between
unfolding run encodes
points_run [] v = refl
points_run (c ∷ cs) v = point_run c (encodes cs) v.0 ∙ points_run cs v.1

text_yes : (bs : List ℕ) → Text bs → is_utf8 bs ≡ true
unfolding is_utf8
text_yes bs t = ap (λ (l : List ℕ). ended (run between l)) (sym t.bytes) ∙ ap ended (points_run t.points t.valid)

-- ---- such a sequence, where the verdict is yes

-- the n octets that are to come of a character, and the characters behind it
record Rest (n v least : ℕ) (bs : List ℕ) : Type 0 where
  point : ℕ
  rest : List ℕ
  bytes : continuation n point ++ rest ≡ bs
  head : point / 64 ^ n ≡ v
  above : least ≤ point
  valid : CodePoint point
  text : Text rest

-- what is to come, from a state that ends well
abbrev ToCome : State → List ℕ → Type 0
ToCome between bs = Text bs
ToCome (inside n v least) bs = Rest (suc n) v least bs
ToCome malformed bs = ⊥

come_within : (n v least : ℕ) (bs : List ℕ) → ToCome (within n v least) bs → Rest n v least bs
unfolding within continuation
come_within (suc n) v least bs t = t
come_within zero v least bs t = go _ refl t
  where
    go : (x : Bool) → leb least v && is_code_point v ≡ x → ToCome (pick x between malformed) bs → Rest zero v least bs
    go false e t = absurd t
    go true e t = let a = and_inv _ _ e in record { point = v; rest = bs; bytes = refl; head = div-one v; above = leb-true _ _ a.0; valid = point_is _ a.1; text = t }

come_octet : (n v least b : ℕ) (bs : List ℕ) → 0x80 ≤ b → b ≤ 0xBF → Rest n (v * 64 + (b - 0x80)) least bs → Rest (suc n) v least (b ∷ bs)
unfolding continuation
come_octet n v least b bs h k t =
    let e = t.head in
    let s : 0x80 + t.point / 64 ^ n % 64 ≡ b = rw e (omega arith) in
    record {
      point = t.point;
      rest = t.rest;
      bytes = rw (s, t.bytes);
      head = above t.point n ∙ ap (λ (x : ℕ). x / 64) e ∙ omega arith;
      above = t.above;
      valid = t.valid;
      text = t.text;
    }

module _ (b : ℕ) (bs : List ℕ) where
  come_row : {high n least most : ℕ} → Row high n least most → high ≤ b → b ≤ most → ToCome (lead b) bs → Text (b ∷ bs)
  unfolding encodes
  come_row {high} {n} {least} {most} w h k t =
      let g = come_within n (b - high) least bs (subst (λ (q : State). ToCome q bs) (w.leads b h k) t) in
      let e = g.head in
      let s : high + g.point / 64 ^ n ≡ b = rw e (omega arith) in
      record {
        points = g.point ∷ g.text.points;
        valid = (g.valid, g.text.valid);
        bytes = ap (λ (l : List ℕ). l ++ encodes g.text.points) (w.encoded g.point g.above (subst (λ (x : ℕ). x ≤ most) (sym s) k)) ∙ rw (s, g.text.bytes, g.bytes);
      }

  come_lead : ToCome (lead b) bs → Text (b ∷ bs)
  unfolding lead
  come_lead t = go (leb b 0x7F) refl (leb b 0xBF) refl (leb b 0xDF) refl (leb b 0xEF) refl (leb b 0xF7) refl
    where
      bad : lead b ≡ malformed → Text (b ∷ bs)
      bad e = absurd (subst (λ (q : State). ToCome q bs) e t)

      go : (a₀ : Bool) → leb b 0x7F ≡ a₀ → (a₁ : Bool) → leb b 0xBF ≡ a₁ → (a₂ : Bool) → leb b 0xDF ≡ a₂ → (a₃ : Bool) → leb b 0xEF ≡ a₃ → (a₄ : Bool) → leb b 0xF7 ≡ a₄ → Text (b ∷ bs)
      go true e₀ a₁ e₁ a₂ e₂ a₃ e₃ a₄ e₄ = come_row row_0 (omega arith) (leb-true _ _ e₀) t
      go false e₀ true e₁ a₂ e₂ a₃ e₃ a₄ e₄ = bad (rw (e₀, e₁))
      go false e₀ false e₁ true e₂ a₃ e₃ a₄ e₄ = let h : 0xBF < b = leb-false _ _ e₁ in come_row row_1 (omega arith) (leb-true _ _ e₂) t
      go false e₀ false e₁ false e₂ true e₃ a₄ e₄ = let h : 0xDF < b = leb-false _ _ e₂ in come_row row_2 (omega arith) (leb-true _ _ e₃) t
      go false e₀ false e₁ false e₂ false e₃ true e₄ = let h : 0xEF < b = leb-false _ _ e₃ in come_row row_3 (omega arith) (leb-true _ _ e₄) t
      go false e₀ false e₁ false e₂ false e₃ false e₄ = bad (rw (e₀, e₁, e₂, e₃, e₄))

come : (q : State) (b : ℕ) (bs : List ℕ) → ToCome (next q b) bs → ToCome q (b ∷ bs)
unfolding next
come between b bs t = come_lead b bs t
come malformed b bs t = t
come (inside n v least) b bs t = go _ refl t
  where
    go : (x : Bool) → leb 0x80 b && leb b 0xBF ≡ x → ToCome (pick x (within n (v * 64 + (b - 0x80)) least) malformed) bs → Rest (suc n) v least (b ∷ bs)
    go true e t = let a = and_inv _ _ e in come_octet n v least b bs (leb-true _ _ a.0) (leb-true _ _ a.1) (come_within n _ least bs t)
    go false e t = absurd t

to_come : (q : State) (bs : List ℕ) → ended (run q bs) ≡ true → ToCome q bs
unfolding run encodes
to_come between [] e = record { points = []; valid = tt; bytes = refl }
to_come (inside n v least) [] e = absurd (subst T (sym e) tt)
to_come malformed [] e = absurd (subst T (sym e) tt)
to_come q (b ∷ bs) e = come q b bs (to_come (next q b) bs e)

yes_text : (bs : List ℕ) → is_utf8 bs ≡ true → Text bs
unfolding is_utf8
yes_text bs e = to_come between bs e

pub utf8_text : (bs : List ℕ) → (is_utf8 bs ≡ true) ↔ Text bs
utf8_text bs = (yes_text bs, text_yes bs)

-- ---- no two sequences have the same bytes

rest_same : (n c d : ℕ) (r q : List ℕ) → c / 64 ^ n ≡ d / 64 ^ n → continuation n c ++ r ≡ continuation n d ++ q → (c ≡ d) × (r ≡ q)
unfolding continuation
rest_same zero c d r q h e = (sym (div-one c) ∙ h ∙ div-one d, e)
rest_same (suc n) c d r q h e =
    let b : 0x80 + c / 64 ^ n % 64 ≡ 0x80 + d / 64 ^ n % 64 = head-eq_of_cons-eq e in
    let a : c / 64 ^ n / 64 ≡ d / 64 ^ n / 64 = sym (above c n) ∙ h ∙ above d n in
    rest_same n c d r q (omega arith) (tail-eq_of_cons-eq e)

point_same : (c d : ℕ) (r q : List ℕ) → CodePoint c → CodePoint d → encode c ++ r ≡ encode d ++ q → (c ≡ d) × (r ≡ q)
point_same c d r q p o e =
    let w = row_of c p in
    let v = row_of d o in
    let f : row w.high w.n c ++ r ≡ row v.high v.n d ++ q =
    ap (λ (l : List ℕ). l ++ r) (sym (w.is.encoded c w.above w.fits)) ∙ e ∙ ap (λ (l : List ℕ). l ++ q) (v.is.encoded d v.above v.fits) in
    let b : w.high + c / 64 ^ w.n ≡ v.high + d / 64 ^ v.n = head-eq_of_cons-eq f in
    let k : ◌≡◌ {A = ℕ × ℕ} (w.high, w.n) (v.high, v.n) = sym (w.is.tells _ (omega arith) w.fits) ∙ ap told b ∙ v.is.tells _ (omega arith) v.fits in
    let h : w.high ≡ v.high = ap (λ (x : ℕ × ℕ). x.0) k in
    let n : v.n ≡ w.n = sym (ap (λ (x : ℕ × ℕ). x.1) k) in
    let g : w.high + c / 64 ^ w.n ≡ w.high + d / 64 ^ w.n = b ∙ ap (λ (x : ℕ × ℕ). x.0 + d / 64 ^ x.1) (sym k) in
    rest_same w.n c d r q (omega arith) (tail-eq_of_cons-eq f ∙ ap (λ (x : ℕ). continuation x d ++ q) n)

encode_some : (c : ℕ) (r : List ℕ) → CodePoint c → encode c ++ r ≡ [] → ⊥
encode_some c r p e = let w = row_of c p in cons≢nil (ap (λ (l : List ℕ). l ++ r) (sym (w.is.encoded c w.above w.fits)) ∙ e)

pub one_text : (cs ds : List ℕ) → All CodePoint cs → All CodePoint ds → encodes cs ≡ encodes ds → cs ≡ ds
unfolding encodes
one_text [] [] v w e = refl
one_text (c ∷ cs) [] v w e = absurd (encode_some c (encodes cs) v.0 e)
one_text [] (d ∷ ds) v w e = absurd (encode_some d (encodes ds) w.0 (sym e))
one_text (c ∷ cs) (d ∷ ds) v w e =
    let s = point_same c d (encodes cs) (encodes ds) v.0 w.0 e in
    ap (λ (x : ℕ). x ∷ cs) s.0 ∙ ap (λ (l : List ℕ). d ∷ l) (one_text cs ds v.1 w.1 s.1)
