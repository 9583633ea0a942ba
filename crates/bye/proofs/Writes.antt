-- The cases of a BYE's size and bytes, each from what the code has tested or called.
use Rattle.std.specs.Prelude.{None, Some}
use Rattle.rfc3550.proofs.Prelude.{ℕ, suc, ◌+◌, ◌-◌, ◌*◌, ◌/◌, ◌%◌, ◌<◌, ◌≤◌, ◌≡◌, refl, sym, ap, ◌∙◌, Bool, true, false, List, [], ◌∷◌, ◌++◌, ⊎_elim, add-zero, add-one, arith, le-leb, lt-leb, leb-true, not-true, not-false, length, take, drop, set, get_or, replicate, length-append, length-drop, length-replicate, drop_of_length-le, drop-cons}
use Rattle.rfc3550.specs.Answer.{refusal, ok, refused, need, ◌>>◌}
use Rattle.rfc3550.specs.Bytes.{be, put, store}
use Rattle.rfc3550.specs.Packet.{bye, content_bytes, layout, leaving_bytes}
use Rattle.rfc3550.specs.Write.{Given, give_bye, leaving_of, packet_given, padding_bytes, padding_ok, own_tests, calculate_size}
use Rattle.rfc3550.proofs.Answers.{need_inv, need_ok}
use Rattle.rfc3550.proofs.Bytes.{length_be, length_store}
use Rattle.utils.specs.Error.{value_in}
use Rattle.utils.specs.Writer.{header}
use Rattle.utils.proofs.Parts.{split}
use Rattle.utils.proofs.Values.{none_found}
use Rattle.utils.proofs.WriterStores.{store_nil, store_store, store_puts}
use Rattle.utils.proofs.WriterCases.{writer}
use Rattle.utils.proofs.WriterPackets.{padding_most, sized, size_ok, size_refused, parts_laid, header_long, packet_laid}
use Rattle.bye.specs.Write.{sources_bytes, ByeFits}

-- ---- sources

pub length_sources : (ss : List ℕ) → length (sources_bytes ss) ≡ length ss * 4
unfolding sources_bytes put
length_sources [] = refl
length_sources (s ∷ ss) = rw (length-append (be 4 s), length_be, length_sources ss) (omega arith)

-- after i turns the words of the rest are still to be stored
pub record Sources (at : ℕ) (ss l : List ℕ) (i : ℕ) (l₁ : List ℕ) : Type 0 where
  pub within : i ≤ length ss
  pub long : length l₁ ≡ length l
  pub rest : store (at + i * 4) (sources_bytes (drop i ss)) l₁ ≡ store at (sources_bytes ss) l

module _ (at : ℕ) (ss l : List ℕ) where
  pub sources_start : Sources at ss l 0 l
  sources_start = record { within = omega arith; long = refl; rest = rw add-zero }

  pub sources_again : (i : ℕ) (l₁ l₂ : List ℕ) → at + length ss * 4 ≤ length l → Sources at ss l i l₁ → i < length ss → l₂ ≡ store (at + i * 4) (be 4 (get_or ss i 0)) l₁ → Sources at ss l (i + 1) l₂
  unfolding sources_bytes put
  sources_again i l₁ l₂ h w f e =
      let n : length (sources_bytes (drop (suc i) ss)) ≡ length (drop (suc i) ss) * 4 = length_sources (drop (suc i) ss) in
      let d : length (drop (suc i) ss) ≡ length ss - suc i = length-drop (suc i) ss in
      let lb = length_be 4 (get_or ss i 0) in
      let s : store (at + suc i * 4) (sources_bytes (drop (suc i) ss)) l₂ ≡ store (at + i * 4) (be 4 (get_or ss i 0) ++ sources_bytes (drop (suc i) ss)) l₁ =
      rw e (store_store (at + i * 4) (at + suc i * 4) (be 4 (get_or ss i 0)) (sources_bytes (drop (suc i) ss)) l₁ (omega arith) (omega (arith, w.long))) in
      record {
        within = omega arith;
        long = ap length e ∙ length_store (at + i * 4) (be 4 (get_or ss i 0)) l₁ (omega (arith, w.long)) ∙ w.long;
        rest = rw (add-one i, s) (rw (drop-cons ss i 0 f) at w.rest);
      }

  pub sources_done : (i : ℕ) (l₁ : List ℕ) → Sources at ss l i l₁ → length ss ≤ i → l₁ ≡ store at (sources_bytes ss) l
  unfolding sources_bytes put
  sources_done i l₁ w f =
      let z : drop i ss ≡ [] = drop_of_length-le ss {i = i} f in
      sym (store_nil (at + i * 4) l₁) ∙ rw z at w.rest

-- ---- reason

leaving_some : (r : List ℕ) → (length r ≡ 0 → ⊥) → leaving_bytes (leaving_of r) ≡ (length r ∷ r) ++ replicate ((4 - (1 + length r) % 4) % 4) 0
leaving_some [] h = absurd (h refl)
leaving_some (b ∷ r) h = refl

pub reason_none : (r : List ℕ) → length r ≡ 0 → (0 ≡ length (leaving_bytes (leaving_of r))) × (0 ≤ 256)
reason_none [] h = (refl, omega arith)
reason_none (b ∷ r) h = absurd (omega arith)

pub reason_some : (r : List ℕ) → (length r ≡ 0 → ⊥) → (length r + 4) / 4 * 4 ≡ length (leaving_bytes (leaving_of r))
reason_some r h = sym (rw (leaving_some r h) (simp (length-append, length-replicate) (omega arith)))

pub reason_not_laid : (at : ℕ) (r l : List ℕ) → length r ≡ 0 → l ≡ store at (leaving_bytes (leaving_of r)) l
reason_not_laid at [] l h = sym (store_nil at l)
reason_not_laid at (b ∷ r) l h = absurd (omega arith)

pub reason_laid : (at : ℕ) (r l l₁ l₂ : List ℕ) → (length r ≡ 0 → ⊥) → at + length (leaving_bytes (leaving_of r)) ≤ length l
    → l₁ ≡ store (at + 1) r (set l at (length r)) → l₂ ≡ store (at + 1 + length r) (replicate ((4 - (1 + length r) % 4) % 4) 0) l₁ → l₂ ≡ store at (leaving_bytes (leaving_of r)) l
reason_laid at r l l₁ l₂ h f e₁ e₂ =
    let m = reason_some r h in
    let s : l₁ ≡ store at (length r ∷ r) l = e₁ ∙ rw (store_puts at (length r) [] l (omega arith)) (store_store at (at + 1) (length r ∷ []) r l refl (omega arith)) in
    e₂ ∙ rw (s, leaving_some r h) (store_store at (at + 1 + length r) (length r ∷ r) (replicate ((4 - (1 + length r) % 4) % 4) 0) l (omega arith) (rw length-replicate (omega arith)))

pub reason_le : (r : List ℕ) → length r ≤ 255 → length (leaving_bytes (leaving_of r)) ≤ 256
reason_le [] h = omega arith
reason_le (b ∷ r) h = omega (arith, reason_some (b ∷ r) (λ e. omega arith))

pub reason_long : (r : List ℕ) → length r ≤ 255 → (length r ≡ 0 → ⊥) → ((length r + 4) / 4 * 4 ≡ length (leaving_bytes (leaving_of r))) × ((length r + 4) / 4 * 4 ≤ 256)
reason_long r f h = (reason_some r h, omega arith)

-- ---- the size

module _ (ss r : List ℕ) (k : ℕ) where
  abbrev given : Given
  given = give_bye ss r k

  pub too_many : 31 < length ss → refused (refusal 15 (length ss) 31) ≡ calculate_size given
  unfolding own_tests need ◌>>◌
  too_many h = size_refused given (simp (lt-leb _ _ h))

  pub none_sources : 31 < length ss → None ≡ value_in (calculate_size given)
  none_sources h = none_found _ _ (too_many h)

  content_length : length (content_bytes (bye ss (leaving_of r))) ≡ length ss * 4 + length (leaving_bytes (leaving_of r))
  unfolding content_bytes sources_bytes
  content_length = length-append (put (replicate (length ss) 4) ss) (leaving_bytes (leaving_of r)) ∙ ap (λ (n : ℕ). n + length (leaving_bytes (leaving_of r))) (length_sources ss)

  module _ (t : Bool) (h : length ss ≤ 31) (e : t ≡ padding_ok k) where
    pub bad_padding_lem : t ≡ false → refused (refusal 11 k 0) ≡ calculate_size given
    unfolding own_tests need ◌>>◌
    bad_padding_lem q = size_refused given (simp (le-leb _ _ h, ← e, q))

    pub none_padding : t ≡ false → None ≡ value_in (calculate_size given)
    none_padding q = none_found _ _ (bad_padding_lem q)

    module _ (q : t ≡ true) where
      pub too_long : 255 < length r → refused (refusal 16 (length r) 255) ≡ calculate_size given
      unfolding own_tests need ◌>>◌
      too_long f = size_refused given (simp (le-leb _ _ h, ← e, q, lt-leb _ _ f))

      pub none_reason : 255 < length r → None ≡ value_in (calculate_size given)
      none_reason f = none_found _ _ (too_long f)

      module _ (f : length r ≤ 255) where
        own_passed : own_tests given ≡ ok tt
        unfolding own_tests need ◌>>◌
        own_passed = simp (le-leb _ _ h, ← e, q, le-leb _ _ f)

        pub bye_size : (m : ℕ) → m ≡ length (leaving_bytes (leaving_of r)) → Some (4 + length ss * 4 + m + k) ≡ value_in (calculate_size given)
        bye_size m g =
            let p : k ≤ 252 = padding_most t k e q in
            ap value_in (size_ok given (4 + length ss * 4 + m + k) own_passed (omega (arith, content_length)) (omega (arith, reason_le r f)))

      -- a BYE is never too large, so the reason is what is left
      pub reason_left : value_in (calculate_size given) ≡ None → refused (refusal 16 (length r) 255) ≡ calculate_size given
      reason_left z = ⊎_elim too_long (λ (f : length r ≤ 255). let x = bye_size f _ refl ∙ z in cc) (split 255 (length r))

  pub bye_fits : (n room : ℕ) → calculate_size given ≡ ok n → n ≤ room → ByeFits ss r k n room
  unfolding own_tests
  bye_fits n room e h =
      let z = sized given n e in
      let a = need_inv _ _ _ _ _ z.own in
      let b = need_inv _ _ _ _ _ a.1 in
      record {
        sources = leb-true _ _ a.0;
        reason = leb-true _ _ (need_ok _ _ _ _ b.1);
        padding = padding_most _ k refl b.0;
        size = omega (arith, content_length);
        most = z.most;
        room = h;
      }

  -- ---- the bytes

  pub bye_laid : (size : ℕ) (l l₁ l₂ l₃ l₄ : List ℕ) → ByeFits ss r k size (length l) → l₁ ≡ store 0 (header k (length ss) 203 size) l → l₂ ≡ store 4 (sources_bytes ss) l₁
      → l₃ ≡ store (4 + length ss * 4) (leaving_bytes (leaving_of r)) l₂ → l₄ ≡ store (size - k) (padding_bytes k) l₃ → l₄ ≡ store 0 (layout (packet_given (give_bye ss r k))) l
  unfolding content_bytes sources_bytes
  bye_laid size l l₁ l₂ l₃ l₄ f e₁ e₂ e₃ e₄ =
      let n = length_sources ss in
      let c = content_length in
      let z = f.size in
      let m = f.room in
      let ln = header_long k (length ss) 203 size l l₁ (omega arith) e₁ in
      let p = parts_laid 4 (4 + length ss * 4) (sources_bytes ss) (leaving_bytes (leaving_of r)) l₁ l₂ l₃ e₂ e₃ (omega arith) (omega arith) in
      packet_laid (bye ss (leaving_of r)) k size (size - k) l l₁ l₃ l₄ (omega arith) m (omega arith) e₁ p e₄

pub ruleset writes = (writer, not-true, not-false, too_many, bad_padding_lem, too_long, sources_start, sources_again, sources_done, reason_none, reason_long, reason_not_laid, reason_laid, none_sources, none_padding, none_reason, reason_left, bye_size, bye_laid)
