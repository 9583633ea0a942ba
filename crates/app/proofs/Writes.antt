-- The cases of an APP's size and bytes, each from what the code has tested or called.
use Rattle.std.specs.Prelude.{None, Some}
use Rattle.rfc3550.proofs.Prelude.{ℕ, zero, suc, ◌+◌, ◌-◌, ◌%◌, ◌<◌, ◌≤◌, ◌≡◌, refl, sym, ap, ◌∙◌, Bool, true, false, ◌&&◌, List, [], ◌∷◌, ◌++◌, arith, le-leb, lt-leb, leb-true, eq-eqb, ne_eqb, not-true, not-false, length, take, drop, get_or, replicate, length-append, length-replicate, leb, add-one, drop_of_length-le, drop-cons}
use Rattle.std.specs.List.{list_all}
use Rattle.rfc3550.specs.Answer.{refusal, ok, refused, need, ◌>>◌}
use Rattle.rfc3550.specs.Bytes.{be, store}
use Rattle.rfc3550.specs.Packet.{app, content_bytes, layout}
use Rattle.rfc3550.specs.Write.{Given, give_app, name_given, ascii, packet_given, padding_bytes, padding_ok, own_tests, calculate_size}
use Rattle.rfc3550.proofs.Answers.{need_inv, need_ok, and_inv}
use Rattle.rfc3550.proofs.Bytes.{length_be, length_store}
use Rattle.utils.specs.Error.{value_in}
use Rattle.utils.specs.Writer.{header}
use Rattle.utils.proofs.Values.{none_found}
use Rattle.utils.proofs.WriterCases.{writer}
use Rattle.utils.proofs.WriterPackets.{padding_most, sized, size_ok, size_over, why_last, size_refused, parts_laid, header_long, packet_laid}
use Rattle.app.specs.Write.{AppFits, name_ok}

-- ---- the name

ascii_all : (name : List ℕ) → list_all (λ b. leb b 127) name ≡ ascii name
ascii_all [] = refl
ascii_all (b ∷ bs) = ap (λ (t : Bool). leb b 127 && t) (ascii_all bs)

pub name_long : (name : List ℕ) → 4 < length name → false ≡ name_ok name
name_long name h = sym (rw (lt-leb _ _ h))

pub name_short : (name : List ℕ) (r : Bool) → length name ≤ 4 → r ≡ list_all (λ b. leb b 127) name → r ≡ name_ok name
name_short name r h e = e ∙ ascii_all name ∙ sym (rw (le-leb _ _ h))

-- ---- the size

module _ (subtype ssrc : ℕ) (name d : List ℕ) (k : ℕ) where
  abbrev given : Given
  given = give_app subtype ssrc name d k

  pub subtype_over : 31 < subtype → refused (refusal 12 subtype 31) ≡ calculate_size given
  unfolding own_tests need ◌>>◌
  subtype_over h = size_refused given (simp (lt-leb _ _ h))

  pub none_subtype : 31 < subtype → None ≡ value_in (calculate_size given)
  none_subtype h = none_found _ _ (subtype_over h)

  module _ (h : subtype ≤ 31) (s : Bool) (es : s ≡ name_ok name) where
    pub name_bad : s ≡ false → refused (refusal 13 0 0) ≡ calculate_size given
    unfolding own_tests need ◌>>◌
    name_bad q = size_refused given (simp (le-leb _ _ h, ← es, q))

    pub none_name : s ≡ false → None ≡ value_in (calculate_size given)
    none_name q = none_found _ _ (name_bad q)

    module _ (qs : s ≡ true) where
      pub data_odd : (length d % 4 ≡ 0 → ⊥) → refused (refusal 14 (length d) 0) ≡ calculate_size given
      unfolding own_tests need ◌>>◌
      data_odd f = size_refused given (simp (le-leb _ _ h, ← es, qs, ne_eqb _ _ f))

      pub none_data : (length d % 4 ≡ 0 → ⊥) → None ≡ value_in (calculate_size given)
      none_data f = none_found _ _ (data_odd f)

      module _ (f : length d % 4 ≡ 0) (t : Bool) (e : t ≡ padding_ok k) where
        pub bad_padding_lem : t ≡ false → refused (refusal 11 k 0) ≡ calculate_size given
        unfolding own_tests need ◌>>◌
        bad_padding_lem q = size_refused given (simp (le-leb _ _ h, ← es, qs, eq-eqb _ _ f, ← e, q))

        pub none_padding : t ≡ false → None ≡ value_in (calculate_size given)
        none_padding q = none_found _ _ (bad_padding_lem q)

        own_passed : t ≡ true → own_tests given ≡ ok tt
        unfolding own_tests need ◌>>◌
        own_passed q = simp (le-leb _ _ h, ← es, qs, eq-eqb _ _ f, ← e, q)

        pub why_over : t ≡ true → value_in (calculate_size given) ≡ None → refused (refusal 22 0 0) ≡ calculate_size given
        why_over q z = why_last given (own_passed q) z

  content_length : length name ≤ 4 → length (content_bytes (app subtype ssrc (name_given name) d)) ≡ 8 + length d
  unfolding content_bytes
  content_length h = simp (length-append, length_be, length-replicate) (omega arith)

  name_le : (s : Bool) → s ≡ name_ok name → s ≡ true → length name ≤ 4
  name_le s e q = leb-true _ _ (and_inv (leb (length name) 4) (ascii name) (sym e ∙ q)).0

  module _ (h : subtype ≤ 31) (s : Bool) (es : s ≡ name_ok name) (qs : s ≡ true) (f : length d % 4 ≡ 0) (t : Bool) (e : t ≡ padding_ok k) (q : t ≡ true) where
    pub app_over : 262144 < 12 + length d + k → None ≡ value_in (calculate_size given)
    app_over o = none_found _ _ (size_over given (12 + length d + k) (own_passed h s es qs f t e q) (omega (arith, content_length (name_le s es qs))) o)

    pub app_size : 12 + length d + k ≤ 262144 → Some (12 + length d + k) ≡ value_in (calculate_size given)
    app_size o = ap value_in (size_ok given (12 + length d + k) (own_passed h s es qs f t e q) (omega (arith, content_length (name_le s es qs))) o)

  pub app_fits : (n space : ℕ) → calculate_size given ≡ ok n → n ≤ space → AppFits subtype name d k n space
  unfolding own_tests
  app_fits n space e h =
      let z = sized given n e in
      let a = need_inv _ _ _ _ _ z.own in
      let b = need_inv _ _ _ _ _ a.1 in
      let g = need_inv _ _ _ _ _ b.1 in
      let m = name_le _ refl b.0 in
      record {
        low = leb-true _ _ a.0;
        short = m;
        padding = padding_most _ k refl (need_ok _ _ _ _ g.1);
        size = omega (arith, content_length m);
        most = z.most;
        room = h;
      }

  -- ---- the bytes

  pub app_laid : (size : ℕ) (l l₁ l₂ l₃ l₄ l₅ l₆ : List ℕ) → AppFits subtype name d k size (length l) → l₁ ≡ store 0 (header k subtype 204 size) l → l₂ ≡ store 4 (be 4 ssrc) l₁
      → l₃ ≡ store 8 name l₂ → l₄ ≡ store (8 + length name) (replicate (4 - length name) 0) l₃ → l₅ ≡ store 12 d l₄ → l₆ ≡ store (size - k) (padding_bytes k) l₅
      → l₆ ≡ store 0 (layout (packet_given given)) l
  unfolding content_bytes
  app_laid size l l₁ l₂ l₃ l₄ l₅ l₆ f e₁ e₂ e₃ e₄ e₅ e₆ =
      let z = f.size in
      let m = f.room in
      let c = content_length f.short in
      let lb = length_be 4 ssrc in
      let lz : length (replicate {A = ℕ} (4 - length name) 0) ≡ 4 - length name = length-replicate _ _ in
      let ln = header_long k subtype 204 size l l₁ (omega arith) e₁ in
      let n₂ : length l₂ ≡ length l = ap length e₂ ∙ length_store 4 (be 4 ssrc) l₁ (omega arith) ∙ ln in
      let nl : length (name_given name) ≡ 4 = simp (length-append, length-replicate) (omega (arith, f.short)) in
      let nd : length (name_given name ++ d) ≡ 4 + length d = length-append (name_given name) d ∙ ap (λ (x : ℕ). x + length d) nl in
      let p₁ = parts_laid 8 (8 + length name) name (replicate (4 - length name) 0) l₂ l₃ l₄ e₃ e₄ refl (omega (arith, f.short)) in
      let p₂ = parts_laid 8 12 (name_given name) d l₂ l₄ l₅ p₁ e₅ (omega arith) (omega arith) in
      let p₃ = parts_laid 4 8 (be 4 ssrc) (name_given name ++ d) l₁ l₂ l₅ e₂ p₂ (omega arith) (omega arith) in
      packet_laid (app subtype ssrc (name_given name) d) k size (size - k) l l₁ l₅ l₆ (omega arith) m (omega arith) e₁ p₃ e₆

pub ruleset writes = (writer, not-true, not-false, subtype_over, name_bad, data_odd, bad_padding_lem, name_long, name_short, none_subtype, none_name, none_data, none_padding, why_over, app_over, app_size, app_laid)
