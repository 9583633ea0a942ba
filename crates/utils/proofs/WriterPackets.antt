-- A write of anything that has a size and bytes, and a packet laid as header, content, padding.
use Rattle.std.specs.Prelude.{None, Some, Result, Ok, Err}
use Rattle.std.specs.Result.{IsErrAnd}
use Rattle.std.proofs.lemmas.Result.{err_from_is_err_and}
use Rattle.rfc3550.proofs.Prelude.{ℕ, suc, ◌+◌, ◌-◌, ◌/◌, ◌%◌, ◌<◌, ◌≤◌, ◌≡◌, sym, ap, ◌∙◌, List, ◌++◌, Bool, true, false, refl, arith, length, length-append, leb, eqb, le-leb, lt-leb, leb-true}
use Rattle.rfc3550.specs.Answer.{Answer, ok, refused, refusal, need, ◌>>◌, ◌>>=◌}
use Rattle.rfc3550.specs.Bytes.{store}
use Rattle.rfc3550.specs.Packet.{Content, content_bytes, low_bits, type, layout}
use Rattle.rfc3550.specs.Write.{Given, padding_bytes, packet_given, content_given, padding_given, padding_ok, size_given, tests, own_tests, calculate_size, room, written, write}
use Rattle.rfc3550.proofs.Answers.{and_inv, need_ok, then_inv, ok_injective}
use Rattle.rfc3550.proofs.Bytes.{length_be, length_store}
use Rattle.rfc3550.proofs.Packets.{length_layout}
use Rattle.rfc3550.proofs.Writes.{length_padding_bytes}
use Rattle.utils.specs.Error.{value_in}
use Rattle.utils.specs.Writer.{written_of, header}
use Rattle.utils.specs.declared.error.RtcpWriteError.{RtcpWriteError}
use Rattle.utils.proofs.WriterStores.{store_store, store_before}
use Rattle.utils.proofs.WriterCases.{writer}

-- ---- the answer and the buffer of a write

module _ (r : Result ℕ RtcpWriteError) (size : Answer ℕ) (bs l : List ℕ) (h : written_of r ≡ size) where
  pub refused_written : (e : RtcpWriteError) → r ≡ Err e → (written_of r, l) ≡ written size bs l
  unfolding room ◌>>=◌
  refused_written e q = simp (← h, q)

  pub short_written : (n : ℕ) → r ≡ Ok n → length l < n → (refused (refusal 10 n 0), l) ≡ written size bs l
  unfolding room ◌>>=◌ ◌>>◌ need
  short_written n q f = simp (← h, q, lt-leb _ _ f)

  pub done_written : (n : ℕ) (l₁ : List ℕ) → r ≡ Ok n → n ≤ length l → l₁ ≡ store 0 bs l → (ok n, l₁) ≡ written size bs l
  unfolding room ◌>>=◌ ◌>>◌ need
  done_written n l₁ q f e = rw e (simp (← h, q, le-leb _ _ f))

module _ (g : Given) (r : Result ℕ RtcpWriteError) (l : List ℕ) (h : written_of r ≡ calculate_size g) where
  pub write_refused : (e : RtcpWriteError) → r ≡ Err e → (written_of r, l) ≡ write g l
  unfolding write
  write_refused e q = refused_written r _ _ l h e q

  -- what the size refuses, handed on by `?`
  pub write_handed : (s : Result ℕ RtcpWriteError) (e : RtcpWriteError) → r ≡ Err e → IsErrAnd s (λ (x : RtcpWriteError). x ≡ e) → (written_of s, l) ≡ write g l
  write_handed s e q h =
      let p = err_from_is_err_and s h in
      let t : s ≡ r = p.1 ∙ ap Err p.2 ∙ sym q in
      rw t (write_refused e q)

  pub write_short : (n : ℕ) → r ≡ Ok n → length l < n → (refused (refusal 10 n 0), l) ≡ write g l
  unfolding write
  write_short n q f = short_written r _ _ l h n q f

  pub write_done : (n : ℕ) (l₁ : List ℕ) → r ≡ Ok n → n ≤ length l → l₁ ≡ store 0 (layout (packet_given g)) l → (ok n, l₁) ≡ write g l
  unfolding write
  write_done n l₁ q f e = done_written r _ _ l h n l₁ q f e

-- what a size says of the packet given
pub record Sized (g : Given) (n : ℕ) : Type 0 where
  pub own : own_tests g ≡ ok tt
  pub is : n ≡ 4 + length (content_bytes (content_given g)) + padding_given g
  pub most : n ≤ 262144

pub sized : (g : Given) (n : ℕ) → calculate_size g ≡ ok n → Sized g n
unfolding calculate_size tests
sized g n e =
    let a = then_inv _ _ e in
    let b = then_inv _ _ a.0 in
    let m : length (layout (packet_given g)) ≡ n = ok_injective a.1 in
    let s : length (layout (packet_given g)) ≤ 262144 = leb-true _ _ (need_ok _ _ _ _ b.1) in
    record { own = b.0; is = omega (arith, length_layout (packet_given g), length_padding_bytes (padding_given g)); most = omega arith }

pub padding_most : (t : Bool) (k : ℕ) → t ≡ padding_ok k → t ≡ true → k ≤ 252
padding_most t k e q = leb-true _ _ (and_inv (eqb (k % 4) 0) (leb k 252) (sym e ∙ q)).1

-- own tests passed: the size, where it is not too large
pub size_ok : (g : Given) (n : ℕ) → own_tests g ≡ ok tt → n ≡ 4 + length (content_bytes (content_given g)) + padding_given g → n ≤ 262144 → ok n ≡ calculate_size g
unfolding calculate_size tests ◌>>◌ need
size_ok g n e q f =
    let m : length (layout (packet_given g)) ≡ n = omega (arith, length_layout (packet_given g), length_padding_bytes (padding_given g)) in
    simp (e, m, le-leb _ _ f)

-- 22
pub size_over : (g : Given) (n : ℕ) → own_tests g ≡ ok tt → n ≡ 4 + length (content_bytes (content_given g)) + padding_given g → 262144 < n → refused (refusal 22 0 0) ≡ calculate_size g
unfolding calculate_size tests ◌>>◌ need
size_over g n e q f =
    let m : length (layout (packet_given g)) ≡ n = omega (arith, length_layout (packet_given g), length_padding_bytes (padding_given g)) in
    simp (e, m, lt-leb _ _ f)

-- own tests passed, and no size: 22 is what is left
pub why_last : (g : Given) → own_tests g ≡ ok tt → value_in (calculate_size g) ≡ None → refused (refusal 22 0 0) ≡ calculate_size g
unfolding calculate_size tests ◌>>◌ need
why_last g e z = go (leb (size_given g) 262144) refl
  where
    go : (b : Bool) → leb (size_given g) 262144 ≡ b → refused (refusal 22 0 0) ≡ calculate_size g
    go true q = let x : value_in (calculate_size g) ≡ Some (size_given g) = rw (e, q) in let y = sym x ∙ z in cc
    go false q = rw (e, q)

-- own tests refused
pub size_refused : (g : Given) {x : _} → own_tests g ≡ refused x → refused x ≡ calculate_size g
unfolding calculate_size tests ◌>>◌
size_refused g e = simp e

-- ---- header, content, padding

-- a store and one right behind it
pub parts_laid : (at k : ℕ) (a b l l₁ l₂ : List ℕ) → l₁ ≡ store at a l → l₂ ≡ store k b l₁ → at + length a ≡ k → k + length b ≤ length l → l₂ ≡ store at (a ++ b) l
parts_laid at k a b l l₁ l₂ e f p h = f ∙ rw e (store_store at k a b l p h)

length_header : (k low t size : ℕ) → length (header k low t size) ≡ 4
length_header k low t size = ap (λ (n : ℕ). suc (suc n)) (length_be 2 (size / 4 - 1))

pub header_long : (k low t size : ℕ) (l l₁ : List ℕ) → 4 ≤ length l → l₁ ≡ store 0 (header k low t size) l → length l₁ ≡ length l
header_long k low t size l l₁ h e = ap length e ∙ length_store 0 (header k low t size) l (omega (arith, length_header k low t size))

-- the header laid last is the header laid first
pub header_last : (k low t size : ℕ) (b l l₁ l₂ : List ℕ) → 4 + length b ≤ length l → l₁ ≡ store 4 b l → l₂ ≡ store 0 (header k low t size) l₁ → l₂ ≡ store 4 b (store 0 (header k low t size) l)
header_last k low t size b l l₁ l₂ h e₁ e₂ =
    e₂ ∙ rw e₁ (store_before 0 4 (header k low t size) b l (omega (arith, length_header k low t size)) h)

pub packet_laid : (c : Content) (k size m : ℕ) (l l₁ l₂ l₃ : List ℕ) → size ≡ 4 + length (content_bytes c) + k → size ≤ length l → m ≡ 4 + length (content_bytes c)
    → l₁ ≡ store 0 (header k (low_bits c) (type c) size) l → l₂ ≡ store 4 (content_bytes c) l₁ → l₃ ≡ store m (padding_bytes k) l₂
    → l₃ ≡ store 0 (layout (record { content = c; padding = padding_bytes k })) l
unfolding layout
packet_laid c k size m l l₁ l₂ l₃ z h q e₁ e₂ e₃ =
    let p = length_padding_bytes k in
    let hd : List ℕ = header k (low_bits c) (type c) size in
    let hl = length_header k (low_bits c) (type c) size in
    let cp : length (content_bytes c ++ padding_bytes k) ≡ length (content_bytes c) + k = length-append (content_bytes c) (padding_bytes k) ∙ ap (λ (n : ℕ). length (content_bytes c) + n) p in
    let ln = header_long k (low_bits c) (type c) size l l₁ (omega arith) e₁ in
    let a = parts_laid 4 m (content_bytes c) (padding_bytes k) l₁ l₂ l₃ e₂ e₃ (sym q) (omega arith) in
    let b = parts_laid 0 4 hd (content_bytes c ++ padding_bytes k) l l₁ l₃ e₁ a (omega arith) (omega arith) in
    let w : size / 4 - 1 ≡ (length (content_bytes c) + length (padding_bytes k)) / 4 = omega arith in
    b ∙ rw w

pub ruleset writes = (writer, write_refused, write_short, write_done)
