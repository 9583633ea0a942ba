-- What every add shares, over the packet given, and closing.
use Rattle.std.specs.Prelude.{None, Some}
use Rattle.rfc3550.proofs.Prelude.{ℕ, ◌+◌, ◌-◌, ◌^◌, ◌<◌, ◌≤◌, ◌≡◌, refl, sym, ap, ◌∙◌, Bool, true, false, ◌||◌, not, List, [], ◌++◌, arith, le-leb, lt-leb, leb-true, leb-false, lt-ltb, le-ltb, eq-eqb, ne_eqb, not-true, not-false, length, take, drop, length-take, length-drop, leb, ltb, eqb}
use Rattle.rfc3550.specs.Answer.{Refusal, refusal, Answer, ok, refused, need, ◌>>◌, capped, map_ok}
use Rattle.rfc3550.specs.Bytes.{store}
use Rattle.rfc3550.specs.Packet.{type, layout, is_report}
use Rattle.rfc3550.specs.Write.{Given, packet_given, content_given, padding_given, size_given, tests, own_tests, calculate_size}
use Rattle.rfc3550.specs.Writer.{Writer, add, close, gives_cname, add_tests, close_tests, after_close, call}
use Rattle.rfc3550.proofs.Answers.{ok_injective, refused_injective, refused≢ok, need_ok, then_inv, map_ok_inv}
use Rattle.utils.specs.Error.{value_in}
use Rattle.utils.specs.Writer.{written_of}
use Rattle.utils.proofs.Values.{value_is, none_refused, none_found, none_below, refused_viewed}
use Rattle.utils.proofs.WriterStores.{store_part}
use Rattle.compound_write.specs.Writer.{writer_of, call_of, size_added, advanced}
use Rattle.compound_write.specs.declared.writer.Writer as code
use Rattle.compound_write.specs.declared.writer.Call.{Call}

-- ---- the interpretations lose nothing

pub writer_of_injective : (v w : code.Writer) → writer_of v ≡ writer_of w → v ≡ w
writer_of_injective v w e = ap code_of e
  where
    code_of : Writer → code.Writer
    code_of w = record { len = w.len; padded = w.padded; cname = w.cname; closed = w.closed }

-- ---- 26, 29, 27, the packet's own order, 10

module _ (len t : ℕ) where
  pub starts_behind : 0 < len → true ≡ (ltb 0 len || is_report t)
  starts_behind h = simp (lt-ltb 0 len h)

  module _ (h : len ≤ 0) where
    pub starts_sender : t ≡ 200 → true ≡ (ltb 0 len || is_report t)
    starts_sender e = simp (le-ltb 0 len h, eq-eqb t 200 e)

    pub starts_receiver : (t ≡ 200 → ⊥) → eqb t 201 ≡ (ltb 0 len || is_report t)
    starts_receiver e = simp (le-ltb 0 len h, ne_eqb t 200 e)

-- a packet that has this size
record Known (g : Given) (size : ℕ) : Type 0 where
  passed : tests g ≡ ok tt
  is : size_given g ≡ size

known : (g : Given) (size : ℕ) → Some size ≡ value_in (calculate_size g) → Known g size
unfolding calculate_size
known g size e = let a = then_inv _ _ (sym (value_is (calculate_size g) size e)) in record { passed = a.0; is = ok_injective a.1 }

module _ (w : Writer) (g : Given) (n : ℕ) where
  pub refused_closed : w.closed ≡ true → refused (refusal 26 0 0) ≡ add_tests w g n
  unfolding add_tests need ◌>>◌
  refused_closed e = simp e

  module _ (still : w.closed ≡ false) where
    pub refused_padded : w.padded ≡ true → refused (refusal 29 0 0) ≡ add_tests w g n
    unfolding add_tests need ◌>>◌
    refused_padded e = simp (still, e)

    module _ (unpadded : w.padded ≡ false) (t : ℕ) (kind : t ≡ type (content_given g)) (s : Bool) (is : s ≡ (ltb 0 w.len || is_report t)) where
      is_starting : s ≡ (ltb 0 w.len || is_report (type (content_given g)))
      is_starting = rw kind at is

      pub refused_first : s ≡ false → refused (refusal 27 0 0) ≡ add_tests w g n
      unfolding add_tests need ◌>>◌
      refused_first e = simp (still, unpadded, ← is_starting, e)

      module _ (starts : s ≡ true) where
        pub refused_own : (r : Refusal) → refused r ≡ calculate_size g → refused r ≡ add_tests w g n
        unfolding add_tests calculate_size need ◌>>◌
        refused_own r e = simp (still, unpadded, ← is_starting, starts) (go (tests g) e)
          where
            rest : Answer (Unit {0})
            rest = need (leb w.len n) 10 (capped w.len) 0 >> need (leb (w.len + size_given g) n) 10 (capped (w.len + size_given g)) 0

            go : (m : Answer (Unit {0})) → refused r ≡ (m >> ok (size_given g)) → refused r ≡ (m >> rest)
            go (ok u) e = absurd (refused≢ok e)
            go (refused x) e = ap refused (refused_injective r x e)

        module _ (size : ℕ) (some : Some size ≡ value_in (calculate_size g)) where
          pub refused_short : n < w.len → w.len < 2 ^ 64 → refused (refusal 10 w.len 0) ≡ add_tests w g n
          unfolding add_tests need ◌>>◌
          refused_short h f =
              let k = known g size some in
              let c : capped w.len ≡ w.len = omega arith in
              simp (still, unpadded, ← is_starting, starts, k.passed, lt-leb _ _ h, c)

          module _ (h : w.len ≤ n) where
            too_long : n < w.len + size → refused (refusal 10 (capped (w.len + size)) 0) ≡ add_tests w g n
            unfolding add_tests need ◌>>◌
            too_long f = let k = known g size some in simp (still, unpadded, ← is_starting, starts, k.passed, k.is, le-leb _ _ h, lt-leb _ _ f)

            passes : w.len + size ≤ n → ok tt ≡ add_tests w g n
            unfolding add_tests need ◌>>◌
            passes f = let k = known g size some in simp (still, unpadded, ← is_starting, starts, k.passed, k.is, le-leb _ _ h, le-leb _ _ f)

            -- the room is what is left
            pub refused_over : value_in (add_tests w g n) ≡ None → (sum : ℕ) → sum ≡ capped (w.len + size) → refused (refusal 10 sum 0) ≡ add_tests w g n
            refused_over z sum e = go (leb (w.len + size) n) refl
              where
                go : (b : Bool) → leb (w.len + size) n ≡ b → refused (refusal 10 sum 0) ≡ add_tests w g n
                go true f = let y = ap value_in (passes (leb-true _ _ f)) ∙ z in cc
                go false f = rw e (too_long (leb-false _ _ f))

            pub room_none : n - w.len < size → None ≡ value_in (size_added w g n)
            room_none f = none_found _ _ (refused_viewed (λ (u : Unit {0}). size_given g) (add_tests w g n) _ (too_long (omega arith)))

            pub room_some : size ≤ n - w.len → Some size ≡ value_in (size_added w g n)
            unfolding map_ok
            room_some f = rw (← passes (omega arith), (known g size some).is)

-- what is refused has no size
module _ (w : Writer) (g : Given) (n : ℕ) where
  none : (r : Refusal) → refused r ≡ add_tests w g n → None ≡ value_in (size_added w g n)
  none r e = none_found _ r (refused_viewed (λ (u : Unit {0}). size_given g) (add_tests w g n) r e)

  pub none_closed : w.closed ≡ true → None ≡ value_in (size_added w g n)
  none_closed e = none _ (refused_closed w g n e)

  module _ (still : w.closed ≡ false) where
    pub none_padded : w.padded ≡ true → None ≡ value_in (size_added w g n)
    none_padded e = none _ (refused_padded w g n still e)

    module _ (unpadded : w.padded ≡ false) (t : ℕ) (kind : t ≡ type (content_given g)) (s : Bool) (is : s ≡ (ltb 0 w.len || is_report t)) where
      pub none_first : s ≡ false → None ≡ value_in (size_added w g n)
      none_first e = none _ (refused_first w g n still unpadded t kind s is e)

      module _ (starts : s ≡ true) where
        pub none_own : None ≡ value_in (calculate_size g) → None ≡ value_in (size_added w g n)
        none_own e = let r = none_refused (calculate_size g) (sym e) in none _ (refused_own w g n still unpadded t kind s is starts r.0 (sym r.1))

        pub none_short : (size : ℕ) → Some size ≡ value_in (calculate_size g) → n < w.len → w.len < 2 ^ 64 → None ≡ value_in (size_added w g n)
        none_short size e h f = none _ (refused_short w g n still unpadded t kind s is starts size e h f)

-- ---- an add, over the packet given

-- what a size that is admitted says of the packet and of the room
pub record Admitted (w : Writer) (g : Given) (n size : ℕ) : Type 0 where
  pub tested : add_tests w g n ≡ ok tt
  pub is : size_given g ≡ size
  pub sized : calculate_size g ≡ ok size
  pub own : own_tests g ≡ ok tt
  pub room : w.len + size ≤ n

own_passed : (g : Given) → tests g ≡ ok tt → own_tests g ≡ ok tt
unfolding tests
own_passed g e = (then_inv _ _ e).0

size_passed : (g : Given) (size : ℕ) → tests g ≡ ok tt → size_given g ≡ size → calculate_size g ≡ ok size
unfolding calculate_size ◌>>◌
size_passed g size e f = simp (e, f)

tests_passed : (w : Writer) (g : Given) (n size : ℕ) → add_tests w g n ≡ ok tt → size_given g ≡ size → Admitted w g n size
unfolding add_tests
tests_passed w g n size e s =
    let b = then_inv _ _ e in
    let c = then_inv _ _ b.1 in
    let d = then_inv _ _ c.1 in
    let f = then_inv _ _ d.1 in
    let h = then_inv _ _ f.1 in
    let r : w.len + size_given g ≤ n = leb-true _ _ (need_ok _ _ _ _ h.1) in
    record { tested = e; is = s; sized = size_passed g size f.0 s; own = own_passed g f.0; room = omega arith }

pub admitted : (w : Writer) (g : Given) (n size : ℕ) → Some size ≡ value_in (size_added w g n) → Admitted w g n size
admitted w g n size e =
    let a = map_ok_inv (λ (u : Unit {0}). size_given g) (add_tests w g n) (sym (value_is (size_added w g n) size e)) in
    tests_passed w g n size a.1 a.2

pub refused_known : (w : Writer) (g : Given) (n : ℕ) → None ≡ value_in (size_added w g n) → value_in (add_tests w g n) ≡ None
refused_known w g n e = none_below (λ (u : Unit {0}). size_given g) (add_tests w g n) e

module _ (g : Given) (w : Writer) (l : List ℕ) where
  pub add_refused : (e : Refusal) (o : Answer (Unit {0})) (w₁ : Writer) → refused e ≡ add_tests w g (length l) → ◌≡◌ {A = Answer (Unit {0}) × Writer} (o, w₁) (refused e, w) → (o, w₁, l) ≡ call (add g) w l
  unfolding call
  add_refused e o w₁ q h = rw (← q) (ap (λ (x : Answer (Unit {0}) × Writer). (x.0, x.1, l)) h)

  module _ (size : ℕ) (told : Some size ≡ value_in (size_added w g (length l))) where
    x : Admitted w g (length l) size
    x = admitted w g (length l) size told

    pub admitted_size : calculate_size g ≡ ok size
    admitted_size = x.sized

    pub admitted_own : own_tests g ≡ ok tt
    admitted_own = x.own

    pub admitted_sum : length l < 2 ^ 64 → w.len + size < 2 ^ 64
    admitted_sum f = let r = x.room in omega arith

    pub admitted_starts : w.len ≤ length l
    admitted_starts = let r = x.room in omega arith

    pub admitted_part : size ≤ length (take (length l - w.len) (drop w.len l))
    admitted_part = let r = x.room in simp (length-take, length-drop) (omega arith)

    pub add_done : (k : ℕ) (named : Bool) (o : Answer (Unit {0})) (w₁ : Writer) (last : List ℕ) → ◌≡◌ {A = Answer (Unit {0}) × Writer} (o, w₁) (ok tt, advanced w size k named) → k ≡ padding_given g → named ≡ gives_cname g
        → last ≡ store 0 (layout (packet_given g)) (take (length l - w.len) (drop w.len l))
        → (o, w₁, take w.len l ++ (last ++ drop (length l - w.len) (drop w.len l))) ≡ call (add g) w l
    unfolding call
    add_done k named o w₁ last e p c f =
        let r = x.room in
        let m : length (layout (packet_given g)) ≡ size = x.is in
        let s : take w.len l ++ (last ++ drop (length l - w.len) (drop w.len l)) ≡ store w.len (layout (packet_given g)) l =
        rw f (store_part w.len (layout (packet_given g)) l (omega arith)) in
        rw (x.tested, s, m, ← c) (ap (λ (x : Answer (Unit {0}) × Writer). (x.0, x.1, store w.len (layout (packet_given g)) l)) (rw p at e))

-- ---- closing

module _ (w : code.Writer) where
  closed_already : w.closed ≡ true → close_tests (writer_of w) ≡ refused (refusal 26 0 0)
  unfolding close_tests need ◌>>◌
  closed_already e = simp e

  unnamed : w.closed ≡ false → w.cname ≡ false → close_tests (writer_of w) ≡ refused (refusal 28 0 0)
  unfolding close_tests need ◌>>◌
  unnamed e f = simp (e, f)

  pub close_done : w.closed ≡ false → w.cname ≡ true → (ok tt, after_close (writer_of w), []) ≡ call close (writer_of w) []
  unfolding call close_tests need ◌>>◌
  close_done e f = simp (e, f)

  module _ (r : Call) where
    refusing : (x : Refusal) → close_tests (writer_of w) ≡ refused x → call_of r ≡ (refused x, writer_of w) → (written_of r.answer, writer_of r.writer, []) ≡ call close (writer_of w) []
    unfolding call
    refusing x t h = rw t (ap (λ (x : Answer (Unit {0}) × Writer). (x.0, x.1, [])) h)

    pub close_closed : w.closed ≡ true → call_of r ≡ (refused (refusal 26 0 0), writer_of w) → (written_of r.answer, writer_of r.writer, []) ≡ call close (writer_of w) []
    close_closed e h = refusing _ (closed_already e) h

    pub close_unnamed : w.closed ≡ false → w.cname ≡ false → call_of r ≡ (refused (refusal 28 0 0), writer_of w) → (written_of r.answer, writer_of r.writer, []) ≡ call close (writer_of w) []
    close_unnamed e f h = refusing _ (unnamed e f) h

pub ruleset starts = (starts_behind, starts_sender, starts_receiver)

pub ruleset closes = (not-true, not-false, close_closed, close_done, close_unnamed)

pub ruleset admits = (not-true, not-false, none_closed, none_padded, none_first, none_own, none_short, room_none, room_some)

pub ruleset rooms = (admitted_starts, admitted_sum)

pub ruleset refuses = (not-true, not-false, refused_closed, refused_padded, refused_first, refused_own, refused_short, refused_over)
