-- A datagram: the steps of a packet's frame, the packet behind it, and the loop over the packets.
use Rattle.std.specs.Prelude.{Option, Some, None}
use Rattle.rfc3550.proofs.Prelude.{rules, ◌≡◌, refl, sym, ap, ◌∙◌, subst, Bool, true, false, ◌||◌, not, List, [], ◌∷◌, ℕ, zero, suc, ◌+◌, ◌-◌, ◌<◌, ◌≤◌, ◌^◌, zero-add, add-zero, arith, lt-leb, le-leb, lt-ltb, le-ltb, eq-eqb, ne_eqb, eqb-true, leb-true, ltb-true, not-true, not-false, length, take, drop, get_or, length-drop, drop_of_length-le, length-take-le, take_all, drop-drop, get_or-take, drop-cons, eqb, ltb}
use Rattle.rfc3550.specs.Answer.{Refusal, refusal, Answer, ok, refused, refuse, need, ◌>>◌, ◌>>=◌, map_ok, pick}
use Rattle.rfc3550.specs.Packet.{Packet as Read, has_cname, some}
use Rattle.rfc3550.specs.Read.{kind_of, version_in, padded, type_in, low_in, stated, read_as}
use Rattle.rfc3550.specs.Compound.{read_packet, read_packets, read_compound}
use Rattle.rfc3550.specs.Walk.{open_walk, step}
use Rattle.rfc3550.proofs.Answers.{need_inv, ok_injective, map_ok_inv, or_assoc}
use Rattle.rfc3550.proofs.Compounds.{packet_span, packets_turns}
use Rattle.utils.specs.Error.{value_in}
use Rattle.utils.proofs.Reading.{map_ok_refused}
use Rattle.utils.proofs.Errors.{parse_handed}
use Rattle.utils.proofs.Values.{value_is, none_below}
use Rattle.compound.specs.Packet.{packet_view}
use Rattle.compound.specs.Compound.{padding_last, report_first, frame, frame_at, with_length, compound_view, walk_at, step_view}
use Rattle.compound.specs.declared.packet.Packet.{Packet}
use Rattle.compound.specs.declared.compound.Compound.{Compound}

-- ---- the two tests of the frame

module _ (s : List ℕ) (n : ℕ) (b : Bool) (e : b ≡ padded s) where
  pub padding_set : b ≡ true → eqb n (length s) ≡ padding_last s n
  padding_set q = rw (← e, q)

  pub padding_clear : b ≡ false → true ≡ padding_last s n
  padding_clear q = rw (← e, q)

module _ (t : ℕ) where
  pub later : (first : Bool) → not first ≡ true → true ≡ report_first first t
  later first e = rw e

  module _ (first : Bool) (e : not first ≡ false) where
    pub sender_first : t ≡ 200 → true ≡ report_first first t
    sender_first q = rw (e, q)

    pub receiver_first : (t ≡ 200 → ⊥) → eqb t 201 ≡ report_first first t
    receiver_first q = rw (e, ne_eqb t 200 q)

-- ---- the frame

module _ (first : Bool) (s : List ℕ) where
  pub frame_short : length s < 4 → refuse 2 4 (length s) ≡ frame first s
  unfolding frame need ◌>>◌
  frame_short h = simp (lt-leb _ _ h)

  pub frame_short_none : length s < 4 → None ≡ value_in (frame first s)
  frame_short_none h = ap value_in (frame_short h)

  module _ (v : ℕ) (h : 4 ≤ length s) (e : v ≡ version_in s) where
    pub frame_version : (v ≡ 2 → ⊥) → refuse 1 v 0 ≡ frame first s
    unfolding frame need ◌>>◌
    frame_version w = simp (le-leb _ _ h, ← e, ne_eqb _ _ w)

    pub frame_version_none : (v ≡ 2 → ⊥) → None ≡ value_in (frame first s)
    frame_version_none w = ap value_in (frame_version w)

    module _ (n : ℕ) (w : v ≡ 2) (g : n ≡ stated s) where
      pub frame_past : length s < n → refuse 2 n (length s) ≡ frame first s
      unfolding frame need ◌>>◌
      frame_past l = simp (le-leb _ _ h, ← e, eq-eqb _ _ w, ← g, lt-leb _ _ l)

      pub frame_past_none : length s < n → None ≡ value_in (frame first s)
      frame_past_none l = ap value_in (frame_past l)

      module _ (p : Bool) (l : n ≤ length s) (q : p ≡ padding_last s n) where
        pub frame_padding : p ≡ false → refuse 9 0 0 ≡ frame first s
        unfolding frame need ◌>>◌
        frame_padding z = simp (le-leb _ _ h, ← e, eq-eqb _ _ w, ← g, le-leb _ _ l, ← q, z)

        pub frame_padding_none : p ≡ false → None ≡ value_in (frame first s)
        frame_padding_none z = ap value_in (frame_padding z)

        module _ (t : ℕ) (r : Bool) (y : p ≡ true) (f : t ≡ type_in s) (o : r ≡ report_first first t) where
          frame_report : r ≡ false → refuse 7 t 0 ≡ frame first s
          unfolding frame need ◌>>◌
          frame_report z = simp (le-leb _ _ h, ← e, eq-eqb _ _ w, ← g, le-leb _ _ l, ← q, y, ← f, ← o, z)

          pub frame_report_none : r ≡ false → None ≡ value_in (frame first s)
          frame_report_none z = ap value_in (frame_report z)

          frame_passed : r ≡ true → ok n ≡ frame first s
          unfolding frame need ◌>>◌
          frame_passed z = simp (le-leb _ _ h, ← e, eq-eqb _ _ w, ← g, le-leb _ _ l, ← q, y, ← f, ← o, z)

          pub frame_passed_len : r ≡ true → Some n ≡ value_in (frame first s)
          frame_passed_len z = ap value_in (frame_passed z)

        -- no test is left but the last
        pub frame_left : (t : ℕ) → p ≡ true → t ≡ type_in s → value_in (frame first s) ≡ None → refused (refusal 7 t 0) ≡ frame first s
        frame_left t y f z = go (report_first first t) refl
          where
            go : (r : Bool) → report_first first t ≡ r → refused (refusal 7 t 0) ≡ frame first s
            go true e = let x = frame_passed_len t (report_first first t) y f refl e ∙ z in cc
            go false e = frame_report t (report_first first t) y f refl e

-- ---- the packet behind the frame

then_bind : {A B : Type 0} (m : Answer (Unit {0})) (r : Answer A) (f : A → Answer B) → ((m >> r) >>= f) ≡ (m >> (r >>= f))
unfolding ◌>>◌ ◌>>=◌
then_bind (ok u) r f = refl
then_bind (refused x) r f = refl

ok_bind : {A B : Type 0} (a : A) (f : A → Answer B) → (ok a >>= f) ≡ f a
unfolding ◌>>=◌
ok_bind a f = refl

framed : (first : Bool) (s : List ℕ) → read_packet first s ≡ (frame first s >>= λ (n : ℕ). read_as (kind_of (type_in s) (low_in s)) (take n s))
unfolding read_packet frame
framed first s = simp (then_bind, ok_bind)

record Framed (first : Bool) (s : List ℕ) (n : ℕ) : Type 0 where
  long : 4 ≤ n
  within : n ≤ length s
  stated : n ≡ stated s

frame_inv : (first : Bool) (s : List ℕ) (n : ℕ) → ok n ≡ frame first s → Framed first s n
unfolding frame stated
frame_inv first s n e =
    let a = need_inv _ _ _ _ _ (sym e) in
    let b = need_inv _ _ _ _ _ a.1 in
    let c = need_inv _ _ _ _ _ b.1 in
    let d = need_inv _ _ _ _ _ c.1 in
    let f = need_inv _ _ _ _ _ d.1 in
    let q = ok_injective f.1 in
    let l : stated s ≤ length s = leb-true _ _ c.0 in
    record { long = omega arith; within = omega arith; stated = sym q }

kind_cut : (n : ℕ) (s : List ℕ) → 4 ≤ n → kind_of (type_in (take n s)) (low_in (take n s)) ≡ kind_of (type_in s) (low_in s)
unfolding type_in low_in
kind_cut n s h = rw (get_or-take n s 0 0 (omega arith), get_or-take n s 1 0 (omega arith))

module _ (first : Bool) (s : List ℕ) where
  -- the frame refuses, and so the packet is refused
  unframed : (r : Refusal) → refused r ≡ frame first s → read_packet first s ≡ refused r
  unfolding ◌>>=◌
  unframed r e = framed first s ∙ rw (sym e)

  pub frame_refused : {B : Type 0} (f : Read → B) (r : Refusal) → refused r ≡ frame first s → refused r ≡ map_ok (with_length f s) (read_packet first s)
  unfolding map_ok
  frame_refused f r e = rw (unframed r e)

  module _ (n : ℕ) (h : Some n ≡ value_in (frame first s)) where
    frame_is : Framed first s n
    frame_is = frame_inv first s n (value_is (frame first s) n h)

    pub frame_within : n ≤ length s
    frame_within = frame_is.within

    pub frame_length : length (take n s) ≡ n
    frame_length = length-take-le n s frame_within

    pub frame_long : 4 ≤ length (take n s)
    frame_long = let f = frame_is in rw (length-take-le n s f.within) f.long

    abbrev within : Answer Read
    within = read_as (kind_of (type_in (take n s)) (low_in (take n s))) (take n s)

    behind : read_packet first s ≡ within
    unfolding ◌>>=◌
    behind = framed first s ∙ rw (sym (value_is (frame first s) n h), kind_cut n s frame_is.long)

    pub verdict_below : None ≡ value_in (map_ok has_cname within) → value_in within ≡ None
    verdict_below = none_below has_cname within

    pub verdict_refused : (r : Refusal) → refused r ≡ within → refused r ≡ map_ok (with_length has_cname s) (read_packet first s)
    unfolding map_ok
    verdict_refused r e = rw (behind, sym e)

    pub verdict_passed : (b : Bool) → Some b ≡ value_in (map_ok has_cname within) → ok (b, n) ≡ map_ok (with_length has_cname s) (read_packet first s)
    unfolding map_ok
    verdict_passed b e = rw behind (go within e)
      where
        go : (a : Answer Read) → Some b ≡ value_in (map_ok has_cname a) → ok (b, n) ≡ map_ok (with_length has_cname s) a
        go (ok p) q = let y : b ≡ has_cname p = cc in rw (y, frame_is.stated)
        go (refused r) q = cc

-- ---- the loop: from a place on

pub rest_is : (s : List ℕ) (at : ℕ) → take (length s - at) (drop at s) ≡ drop at s
rest_is s at = take_all (length s - at) (drop at s) (rw length-drop (omega arith))

-- the packets from a place on
abbrev from : List ℕ → ℕ → Answer (List Read)
from s at = pick (eqb at 0) (read_packet true s >>= λ (p : Read). read_packets (length s) (drop (stated s) s) >>= λ (ps : List Read). ok (p ∷ ps)) (read_packets (length s) (drop at s))

-- the answer, where n packets and whether one of them has a CNAME are known and others are left
unfoldable pub finish : Bool → ℕ → Answer (List Read) → Answer Compound
finish c n (ok ps) = need (c || some has_cname ps) 8 0 0 >> ok (record { n_packets = n + length ps })
finish c n (refused r) = refused r

abbrev answer : List ℕ → Answer Compound
answer s = map_ok compound_view (read_compound s)

start : (r : Answer Read) (m : Answer (List Read))
    → finish false 0 (r >>= λ (p : Read). m >>= λ (ps : List Read). ok (p ∷ ps))
    ≡ map_ok compound_view (r >>= λ (p : Read). m >>= λ (ps : List Read). need (some has_cname (p ∷ ps)) 8 0 0 >> ok (p ∷ ps))
unfolding finish map_ok ◌>>=◌ ◌>>◌ need
start (ok p) (ok ps) = rw zero-add (go (some has_cname (p ∷ ps)))
  where
    go : (b : Bool) → (need b 8 0 0 >> ok (record { n_packets = length (p ∷ ps) })) ≡ map_ok compound_view (need b 8 0 0 >> ok (p ∷ ps))
    go true = refl
    go false = refl
start (ok p) (refused x) = refl
start (refused x) m = refl

from_start : (s : List ℕ) → finish false 0 (from s 0) ≡ answer s
unfolding read_compound
from_start s = start (read_packet true s) (read_packets (length s) (drop (stated s) s))

-- a packet at a place, and what follows it
abbrev onward : List ℕ → ℕ → Answer Read → Answer (List Read)
onward s at r = r >>= λ (p : Read). read_packets (length s) (drop (at + stated (drop at s)) s) >>= λ (ps : List Read). ok (p ∷ ps)

turn : (f b : ℕ) (l : List ℕ) → length (b ∷ l) ≤ f
    → read_packets f (b ∷ l) ≡ (read_packet false (b ∷ l) >>= λ (p : Read). read_packets f (drop (stated (b ∷ l)) (b ∷ l)) >>= λ (ps : List Read). ok (p ∷ ps))
unfolding read_packets stated
turn zero b l h = absurd (omega arith)
turn (suc f) b l h =
    ap (λ (m : Answer (List Read)). read_packet false (b ∷ l) >>= λ (p : Read). m >>= λ (ps : List Read). ok (p ∷ ps))
    (packets_turns f (suc f) (drop (stated (b ∷ l)) (b ∷ l)) (rw length-drop (omega arith)) (rw length-drop (omega arith)))

from_at : (s : List ℕ) (at : ℕ) → at < length s → from s at ≡ onward s at (read_packet (eqb at 0) (drop at s))
from_at s at h = go (eqb at 0) refl
  where
    go : (b : Bool) → eqb at 0 ≡ b → pick b (read_packet true s >>= λ (p : Read). read_packets (length s) (drop (stated s) s) >>= λ (ps : List Read). ok (p ∷ ps)) (read_packets (length s) (drop at s))
        ≡ onward s at (read_packet b (drop at s))
    go true e = rw (eqb-true at 0 e, zero-add)
    go false e =
        let d = drop-cons s at 0 h in
        rw (← drop-drop (stated (drop at s)) at s, d) (turn (length s) (get_or s at 0) (drop (suc at) s) (subst (λ (l : List ℕ). length l ≤ length s) d (rw length-drop (omega arith))))

cons : (c : Bool) (n : ℕ) (x : Read) (m : Answer (List Read)) → finish (c || has_cname x) (n + 1) m ≡ finish c n (m >>= λ (ps : List Read). ok (x ∷ ps))
unfolding finish ◌>>=◌
cons c n x (ok ps) =
    let e : n + 1 + length ps ≡ n + length (x ∷ ps) = omega arith in
    rw (e, or_assoc c (has_cname x) (some has_cname ps))
cons c n x (refused r) = refl

from_after : (s : List ℕ) (at : ℕ) → 0 < at → from s at ≡ read_packets (length s) (drop at s)
from_after s at h = rw (ne_eqb at 0 (omega arith))

-- what is asked of a packet that was read, whose bytes are the rest as a part
module _ {B : Type 0} (f : Read → B) where
  here : (s : List ℕ) (at : ℕ) (a : Answer (B × ℕ)) → a ≡ map_ok (with_length f (take (length s - at) (drop at s))) (read_packet (eqb at 0) (take (length s - at) (drop at s)))
      → a ≡ map_ok (with_length f (drop at s)) (read_packet (eqb at 0) (drop at s))
  here s at a e = e ∙ ap (λ (l : List ℕ). map_ok (with_length f l) (read_packet (eqb at 0) l)) (rest_is s at)

  -- what it tells
  record Came (first : Bool) (s : List ℕ) (p : B) (k : ℕ) : Type 0 where
    packet : Read
    is_read : read_packet first s ≡ ok packet
    view : f packet ≡ p
    span : stated s ≡ k

  came : (first : Bool) (s : List ℕ) (a : Answer (B × ℕ)) (p : B) (k : ℕ) → a ≡ map_ok (with_length f s) (read_packet first s) → a ≡ ok (p, k) → Came first s p k
  came first s a p k g e =
      let m = map_ok_inv (with_length f s) (read_packet first s) (sym g ∙ e) in
      record { packet = m.0; is_read = m.1; view = ap (λ (x : B × ℕ). x.0) m.2; span = ap (λ (x : B × ℕ). x.1) m.2 }

  gone : (first : Bool) (s : List ℕ) (a : Answer (B × ℕ)) (r : Refusal) → a ≡ map_ok (with_length f s) (read_packet first s) → a ≡ refused r → read_packet first s ≡ refused r
  gone first s a r g e = map_ok_refused (with_length f s) (read_packet first s) (sym g ∙ e)

  came_within : (s : List ℕ) (at : ℕ) (p : B) (k : ℕ) → at < length s → Came (eqb at 0) (drop at s) p k → (4 ≤ k) × (at + k ≤ length s)
  came_within s at p k h w =
      let l = packet_span (eqb at 0) (drop at s) w.is_read in
      let d = length-drop at s in
      (omega (arith, w.span), omega (arith, w.span))

record Next (s : List ℕ) (at n : ℕ) (c b : Bool) (k : ℕ) : Type 0 where
  some : 4 ≤ k
  within : at + k ≤ length s
  same : finish (c || b) (n + 1) (from s (at + k)) ≡ finish c n (from s at)

next_came : (s : List ℕ) (at n : ℕ) (c : Bool) → at < length s → (b : Bool) (k : ℕ) → Came has_cname (eqb at 0) (drop at s) b k → Next s at n c b k
unfolding ◌>>=◌
next_came s at n c h b k w =
    let l = came_within has_cname s at b k h w in
    record {
      some = l.0;
      within = l.1;
      same =
          rw (from_after s (at + k) (omega arith), ← w.span, ← w.view, from_at s at h, w.is_read)
          (cons c n w.packet (read_packets (length s) (drop (at + stated (drop at s)) s)));
    }

-- what the check answers of the rest as a part
abbrev asked : List ℕ → ℕ → Answer (Bool × ℕ)
asked s at = map_ok (with_length has_cname (take (length s - at) (drop at s))) (read_packet (eqb at 0) (take (length s - at) (drop at s)))

module _ (s : List ℕ) (at n : ℕ) (c : Bool) (h : at < length s) where
  turn_refused : (r : Refusal) → refused r ≡ asked s at → refused r ≡ finish c n (from s at)
  unfolding finish ◌>>=◌
  turn_refused r g = rw (from_at s at h, gone has_cname (eqb at 0) (drop at s) (refused r) r (here has_cname s at (refused r) g) refl)

  turn_next : (b : Bool) (k : ℕ) → ok (b, k) ≡ asked s at → Next s at n c b k
  turn_next b k g = next_came s at n c h b k (came has_cname (eqb at 0) (drop at s) (ok (b, k)) b k (here has_cname s at (ok (b, k)) g) refl)

-- at the end
none_left : (f : ℕ) → read_packets f [] ≡ ok []
unfolding read_packets
none_left zero = refl
none_left (suc f) = refl

from_end : (s : List ℕ) (at : ℕ) → 0 < length s → at ≡ length s → from s at ≡ ok []
from_end s at p e = from_after s at (omega arith) ∙ rw (drop_of_length-le s {i = at} (omega arith)) (none_left (length s))

named_end : (s : List ℕ) (at n : ℕ) (c : Bool) → 0 < length s → at ≡ length s → c ≡ true → ok (record { n_packets = n }) ≡ finish c n (from s at)
unfolding finish need ◌>>◌
named_end s at n c p e z = rw (from_end s at p e, z, add-zero n)

unnamed_end : (s : List ℕ) (at n : ℕ) (c : Bool) → 0 < length s → at ≡ length s → c ≡ false → refuse 8 0 0 ≡ finish c n (from s at)
unfolding finish need ◌>>◌
unnamed_end s at n c p e z = rw (from_end s at p e, z)

-- no byte
pub no_byte : (s : List ℕ) → length s ≡ 0 → refuse 2 4 0 ≡ answer s
unfolding read_compound read_packet need ◌>>◌ ◌>>=◌ map_ok
no_byte [] e = refl
no_byte (b ∷ s) e = absurd (omega arith)

-- what is known before each turn: the packets that are left give the answer
pub record Loop (s : List ℕ) (at n : ℕ) (c : Bool) : Type 0 where
  pub some : 0 < length s
  pub within : at ≤ length s
  pub count : n ≤ at
  pub same : finish c n (from s at) ≡ answer s

pub loop_start : (s : List ℕ) → (length s ≡ 0 → ⊥) → Loop s 0 0 false
loop_start s h = record { some = omega (arith, h); within = omega arith; count = omega arith; same = from_start s }

module _ (s : List ℕ) (at n : ℕ) (c : Bool) (g : Loop s at n c) where
  pub loop_named : length s ≤ at → c ≡ true → ok (record { n_packets = n }) ≡ answer s
  loop_named l z = named_end s at n c g.some (omega (arith, g.within)) z ∙ g.same

  pub loop_unnamed : length s ≤ at → c ≡ false → refuse 8 0 0 ≡ answer s
  loop_unnamed l z = unnamed_end s at n c g.some (omega (arith, g.within)) z ∙ g.same

  module _ (h : at < length s) where
    pub loop_refused : (r : Refusal) → refused r ≡ asked s at → refused r ≡ answer s
    loop_refused r w = turn_refused s at n c h r w ∙ g.same

    module _ (b : Bool) (k : ℕ) (w : ok (b, k) ≡ asked s at) where
      pub loop_fits : length s < 2 ^ 64 → at + k < 2 ^ 64
      loop_fits l = let x = turn_next s at n c h b k w in omega arith

      pub loop_counts : length s < 2 ^ 64 → n + 1 < 2 ^ 64
      loop_counts l = omega (arith, g.count)

      pub loop_less : length s - (at + k) < length s - at
      loop_less = let x = turn_next s at n c h b k w in omega arith

      pub loop_again : Loop s (at + k) (n + 1) (c || b)
      loop_again = let x = turn_next s at n c h b k w in record { some = g.some; within = x.within; count = omega (arith, g.count); same = x.same ∙ g.same }

-- ---- a walk

module _ (s : List ℕ) (at : ℕ) where
  pub at_end : length s ≤ at → refuse 25 0 0 ≡ frame_at s at
  unfolding frame_at need ◌>>◌
  at_end h = simp (le-ltb _ _ h)

  pub len_none : length s ≤ at → None ≡ value_in (frame_at s at)
  len_none h = ap value_in (at_end h)

  module _ (h : at < length s) where
    at_place : frame (eqb at 0) (take (length s - at) (drop at s)) ≡ frame_at s at
    unfolding frame_at need ◌>>◌
    at_place = rw (rest_is s at, lt-ltb at (length s) h)

    pub len_here : (o : Option ℕ) → o ≡ value_in (frame (eqb at 0) (take (length s - at) (drop at s))) → o ≡ value_in (frame_at s at)
    len_here o q = q ∙ ap value_in at_place

    pub len_here_none : value_in (frame_at s at) ≡ None → value_in (frame (eqb at 0) (take (length s - at) (drop at s))) ≡ None
    len_here_none q = ap value_in at_place ∙ q

    pub len_here_why : (r : Refusal) → refused r ≡ frame (eqb at 0) (take (length s - at) (drop at s)) → refused r ≡ frame_at s at
    len_here_why r q = q ∙ at_place

  -- none is left, or the frame refuses
  pub step_none : (r : Refusal) → refused r ≡ frame_at s at → refused r ≡ map_ok step_view (step s at)
  unfolding step frame_at need ◌>>◌ ◌>>=◌ map_ok
  step_none r q = go (ltb at (length s)) refl
    where
      go : (b : Bool) → ltb at (length s) ≡ b → refused r ≡ map_ok step_view (step s at)
      go false e =
          let w : ◌≡◌ {A = Answer ℕ} (refused r) (refused (refusal 25 0 0)) = q ∙ rw e in
          let x : r ≡ refusal 25 0 0 = cc in
          rw (e, x)
      go true e = let w : refused r ≡ frame (eqb at 0) (drop at s) = q ∙ rw e in rw (e, unframed (eqb at 0) (drop at s) r w)

  module _ (n : ℕ) (h : Some n ≡ value_in (frame_at s at)) where
    came_at : (at < length s) × (frame (eqb at 0) (drop at s) ≡ ok n)
    unfolding frame_at
    came_at = let a = need_inv _ _ _ _ _ (sym (value_is (frame_at s at) n h)) in (ltb-true at (length s) a.0, a.1)

    here_framed : Framed (eqb at 0) (drop at s) n
    here_framed = frame_inv (eqb at 0) (drop at s) n (sym came_at.1)

    pub step_start : at ≤ length s
    step_start = let l = came_at.0 in omega arith

    pub step_within : at + n ≤ length s
    step_within = let f = here_framed in let l = came_at.0 in omega (arith, f.within, length-drop at s)

    pub step_fits : length s < 2 ^ 64 → at + n < 2 ^ 64
    step_fits l = let w = step_within in omega arith

    abbrev there_read : Answer Read
    there_read = read_as (kind_of (type_in (take (at + n - at) (drop at s))) (low_in (take (at + n - at) (drop at s)))) (take (at + n - at) (drop at s))

    -- the step is the reading of the packet there
    step_is : step s at ≡ (there_read >>= λ (p : Read). ok (p, at + n))
    unfolding step need ◌>>◌
    step_is =
        let m : at + n - at ≡ n = omega arith in
        rw (lt-ltb at (length s) came_at.0, m, behind (eqb at 0) (drop at s) n (sym (ap value_in came_at.1)), ← here_framed.stated)

    pub stepped : (a : Answer Packet) → a ≡ map_ok packet_view there_read → map_ok (λ (p : Packet). (p, walk_at (at + n))) a ≡ map_ok step_view (step s at)
    unfolding map_ok ◌>>=◌
    stepped a e = rw (step_is, e) (go there_read)
      where
        go : (m : Answer Read) → map_ok (λ (p : Packet). (p, walk_at (at + n))) (map_ok packet_view m) ≡ map_ok step_view (m >>= λ (p : Read). ok (p, at + n))
        go (ok p) = refl
        go (refused r) = refl

    pub step_refused : (r : Refusal) → refused r ≡ map_ok packet_view there_read → refused r ≡ map_ok step_view (step s at)
    unfolding map_ok
    step_refused r e = stepped (refused r) e

    pub step_some : (p : Packet) → ok p ≡ map_ok packet_view there_read → ok (p, walk_at (at + n)) ≡ map_ok step_view (step s at)
    unfolding map_ok
    step_some p e = stepped (ok p) e

module _ (s : List ℕ) where
  pub open_refused : (r : Refusal) → refused r ≡ answer s → refused r ≡ map_ok walk_at (open_walk s)
  unfolding open_walk ◌>>=◌ map_ok
  open_refused r g = rw (map_ok_refused compound_view (read_compound s) (sym g))

  pub open_ok : (x : Compound) → ok x ≡ answer s → ok (walk_at 0) ≡ map_ok walk_at (open_walk s)
  unfolding open_walk ◌>>=◌ map_ok
  open_ok x g = rw (map_ok_inv compound_view (read_compound s) (sym g)).1

pub ruleset frames = (rules, not-true, not-false, padding_set, padding_clear, later, sender_first, receiver_first, frame_short, frame_short_none, frame_version, frame_version_none, frame_past, frame_past_none, frame_padding, frame_padding_none, frame_report_none, frame_left, frame_passed_len, frame_refused, frame_within, frame_length, verdict_below, verdict_refused, verdict_passed)

pub ruleset compounds = (rules, parse_handed, not-true, not-false, no_byte, loop_start, loop_named, loop_unnamed, loop_refused, loop_fits, loop_counts, loop_less, loop_again, at_end, len_none, len_here, len_here_none, len_here_why, step_none, step_start, step_within, step_fits, step_refused, step_some, open_refused, open_ok)
