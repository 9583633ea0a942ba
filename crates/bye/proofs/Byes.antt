-- Reading a BYE packet, from what a reader has tested, its sources, and its parts by place.
use Rattle.std.specs.Prelude.{None, Some}
use Rattle.rfc3550.proofs.Prelude.{rules, ◌≡◌, refl, ap, ◌∙◌, sym, subst, true, false, List, [], ◌∷◌, ⊎_elim, ℕ, ◌+◌, ◌-◌, ◌*◌, ◌<◌, ◌≤◌, ◌^◌, mod-lt, add-zero, add-one, arith, le-leb, lt-leb, length, get_or, take, drop, replicate, length-drop, length-replicate, drop-drop, length-take-le, take_all, slice_empty, slice-cons}
use Rattle.rfc3550.specs.Answer.{Refusal, refusal, Answer, ok, refused, refuse, need, ◌>>◌, ◌>>=◌, map_ok}
use Rattle.rfc3550.specs.Bytes.{val, get}
use Rattle.rfc3550.specs.Packet.{Leaving, no_reason, reason, bye, Content, Packet}
use Rattle.rfc3550.specs.Read.{BYE, low_in, check_packet, read_leaving, read_content, read_as, read_source_at}
use Rattle.rfc3550.proofs.Answers.{refused≢ok, map_ok_inv}
use Rattle.rfc3550.proofs.Bytes.{length_get, sum_replicate}
use Rattle.utils.specs.Error.{value_in}
use Rattle.utils.proofs.Headers.{Accepted}
use Rattle.utils.proofs.Errors.{parse_handed}
use Rattle.utils.proofs.Reading.{packet_of, content_in, got, got_is, none_viewed_at_header, why_at_header, body_accepted, body_content, map_ok_refused}
use Rattle.utils.proofs.Parts.{drop_take, take_drop_take, length_drop_take, get_take, nth_past, nth_get, split}
use Rattle.bye.specs.declared.Bye.{Bye}
use Rattle.bye.specs.Bye.{leaving, reason_bytes, tail_bytes, bye_view}

-- ---- the content by places in the packet

abbrev end : List ℕ → ℕ
end s = 4 + 4 * low_in s

abbrev sources : List ℕ → List ℕ
sources s = get (replicate (low_in s) 4) (drop 4 s)

abbrev len : List ℕ → ℕ
len s = get_or s (end s) 0

-- a reason of the length that its byte says, and the rest of the body
abbrev left : List ℕ → ℕ → Leaving
left s b = reason (take (len s) (drop (end s + 1) s)) (take (b - (end s + 1 + len s)) (drop (end s + 1 + len s) s))

module _ (s : List ℕ) (b : ℕ) (h : 4 ≤ b) (l : b ≤ length s) where
  total : 4 + length (drop 4 (take b s)) ≡ b
  total = rw (length_drop_take 4 b s l) (omega arith)

  short : b < end s → content_in BYE s b ≡ refuse 2 (end s) b
  unfolding read_content need ◌>>◌
  short q = rw (total, lt-leb (end s) b q)

  sources_in : end s ≤ b → get (replicate (low_in s) 4) (drop 4 (take b s)) ≡ sources s
  sources_in q = get_take (replicate (low_in s) 4) 4 b s (rw (sum_replicate (low_in s) 4) q)

  none : b ≡ end s → content_in BYE s b ≡ ok (bye (sources s) no_reason)
  unfolding read_content read_leaving need ◌>>◌ ◌>>=◌
  none q =
      let m : end s ≤ b = omega arith in
      let r : drop (end s) (take b s) ≡ [] = rw q (slice_empty (end s) s) in
      rw (total, le-leb (end s) b m, drop-drop (4 * low_in s) 4 (take b s), r, sources_in m)

  rest : end s < b → drop (4 * low_in s) (drop 4 (take b s)) ≡ len s ∷ drop (end s + 1) (take b s)
  rest q = rw (drop-drop (4 * low_in s) 4 (take b s), slice-cons (end s) b s 0 q l, add-one (end s))

  past : end s < b → b < end s + 1 + len s → content_in BYE s b ≡ refuse 2 (end s + 1 + len s) b
  unfolding read_content read_leaving need ◌>>◌ ◌>>=◌
  past q r =
      let m : end s ≤ b = omega arith in
      let n = length_drop_take (end s + 1) b s l in
      let f : length (drop (end s + 1) (take b s)) < len s = omega arith in
      rw (total, le-leb (end s) b m, rest q, lt-leb (len s) (length (drop (end s + 1) (take b s))) f)

  there : end s < b → end s + 1 + len s ≤ b → content_in BYE s b ≡ ok (bye (sources s) (left s b))
  unfolding read_content read_leaving need ◌>>◌ ◌>>=◌
  there q r =
      let m : end s ≤ b = omega arith in
      let n = length_drop_take (end s + 1) b s l in
      let f : len s ≤ length (drop (end s + 1) (take b s)) = omega arith in
      rw (
        total,
        le-leb (end s) b m,
        rest q,
        le-leb (len s) (length (drop (end s + 1) (take b s))) f,
        drop-drop (len s) (end s + 1) (take b s),
        take_drop_take (len s) (end s + 1) b s r,
        drop_take (end s + 1 + len s) b s,
        sources_in m,
      )

-- ---- the fields

length_sources : (s : List ℕ) → length (sources s) ≡ low_in s
length_sources s = length_get (replicate (low_in s) 4) (drop 4 s) ∙ length-replicate (low_in s) 4

abbrev view_none : List ℕ → ℕ → Bye
view_none s b = record { n_sources = low_in s; has_reason = false; reason = end s; reason_len = 0; body = b; padding_len = length s - b }

abbrev view_there : List ℕ → ℕ → Bye
view_there s b = record { n_sources = low_in s; has_reason = true; reason = end s + 1; reason_len = len s; body = b; padding_len = length s - b }

view_none_lem : (s : List ℕ) (b : ℕ) → b ≡ end s → bye_view (packet_of s b (bye (sources s) no_reason)) ≡ view_none s b
view_none_lem s b q = rw (length_sources s, length-drop b s, q, add-zero (end s), add-zero (end s), add-zero (end s))

view_there_lem : (s : List ℕ) (b : ℕ) → b ≤ length s → end s + 1 + len s ≤ b → bye_view (packet_of s b (bye (sources s) (left s b))) ≡ view_there s b
view_there_lem s b l q =
    let m : end s + 1 + len s + (b - (end s + 1 + len s)) ≡ b = omega arith in
    rw (
      length_sources s,
      length-drop b s,
      length-take-le (len s) (drop (end s + 1) s) (rw length-drop (omega arith)),
      length-take-le (b - (end s + 1 + len s)) (drop (end s + 1 + len s) s) (rw length-drop (omega arith)),
      m,
    )

pub none_header : (s : List ℕ) → None ≡ value_in (check_packet BYE s) → None ≡ value_in (map_ok bye_view (read_as BYE s))
none_header s z = none_viewed_at_header BYE s bye_view z

pub why_header : (s : List ℕ) (r : Refusal) → refused r ≡ check_packet BYE s → refused r ≡ read_as BYE s
why_header s r e = why_at_header BYE s r e

answer_none : (m : Answer Packet) (r : Refusal) → m ≡ refused r → None ≡ value_in (map_ok bye_view m)
unfolding map_ok
answer_none m r e = rw e

answer_read : (m : Answer Packet) (p : Packet) (b : Bye) → m ≡ ok p → bye_view p ≡ b → Some b ≡ value_in (map_ok bye_view m)
unfolding map_ok
answer_read m p b e v = rw (e, v)

answer_some : (m : Answer Packet) (p : Packet) → m ≡ ok p → value_in m ≡ None → ⊥
answer_some m p e z = let x : value_in m ≡ Some p = ap value_in e in let y = sym x ∙ z in cc

-- no body, and so the header refuses
pub header_refuses : (s : List ℕ) → None ≡ value_in (check_packet BYE s) → value_in (check_packet BYE s) ≡ None
header_refuses s z = sym z

module _ (s : List ℕ) (b : ℕ) (h : Some b ≡ value_in (check_packet BYE s)) where
  body : Accepted 4 s b
  body = body_accepted BYE s b h

  pub bye_header : (n : ℕ) → n ≤ 4 → n ≤ length s
  bye_header n l = let a = body in omega arith

  pub bye_body : b ≤ length s
  bye_body = body.within

  content_refused : (k : Refusal) → content_in BYE s b ≡ refused k → read_as BYE s ≡ refused k
  unfolding map_ok
  content_refused k e = body_content BYE s b h ∙ rw e

  content_read : (c : Content) → content_in BYE s b ≡ ok c → read_as BYE s ≡ ok (packet_of s b c)
  unfolding map_ok
  content_read c e = body_content BYE s b h ∙ rw e

  module _ (n : ℕ) (c : n ≡ low_in s) where
    cut : b < 4 + 4 * n → read_as BYE s ≡ refuse 2 (4 + 4 * n) b
    cut q = content_refused _ (rw c (short s b body.enough body.within (omega arith)))

    pub none_cut : b < 4 + 4 * n → None ≡ value_in (map_ok bye_view (read_as BYE s))
    none_cut q = answer_none (read_as BYE s) _ (cut q)

    pub why_cut : b < 4 + 4 * n → refused (refusal 2 (4 + 4 * n) b) ≡ read_as BYE s
    why_cut q = sym (cut q)

    bare : b ≡ 4 + 4 * n → read_as BYE s ≡ ok (packet_of s b (bye (sources s) no_reason))
    bare q = content_read _ (none s b body.enough body.within (omega arith))

    pub reason_none : b ≡ 4 + 4 * n → Some (record { n_sources = n; has_reason = false; reason = 4 + 4 * n; reason_len = 0; body = b; padding_len = length s - b }) ≡ value_in (map_ok bye_view (read_as BYE s))
    reason_none q = rw c (answer_read (read_as BYE s) _ _ (bare q) (view_none_lem s b (omega arith)))

    -- the place of the reason's length
    pub length_there : 4 + 4 * n ≤ b → (b ≡ 4 + 4 * n → ⊥) → 4 + 4 * n < length s
    length_there q m = let a = body in omega arith

    -- of a packet that is refused, the body does not end with the sources
    refused_past : value_in (read_as BYE s) ≡ None → b ≡ 4 + 4 * n → ⊥
    refused_past z q = answer_some _ _ (bare q) z

    pub length_refused : value_in (read_as BYE s) ≡ None → 4 + 4 * n ≤ b → 4 + 4 * n < length s
    length_refused z q = length_there q (refused_past z)

    module _ (x : ℕ) (q : 4 + 4 * n ≤ b) (m : b ≡ 4 + 4 * n → ⊥) (f : x ≡ get_or s (4 + 4 * n) 0) where
      len_is : x ≡ len s
      len_is = rw c at f

      over : b < 4 + 4 * n + 1 + x → read_as BYE s ≡ refuse 2 (4 + 4 * n + 1 + x) b
      over z = let w = len_is in content_refused _ (rw (w, c) (past s b body.enough body.within (omega arith) (omega arith)))

      pub none_over : b < 4 + 4 * n + 1 + x → None ≡ value_in (map_ok bye_view (read_as BYE s))
      none_over z = answer_none (read_as BYE s) _ (over z)

      said : 4 + 4 * n + 1 + x ≤ b → read_as BYE s ≡ ok (packet_of s b (bye (sources s) (left s b)))
      said z = let w = len_is in content_read _ (there s b body.enough body.within (omega arith) (omega arith))

      pub reason_there : 4 + 4 * n + 1 + x ≤ b
          → Some (record { n_sources = n; has_reason = true; reason = 4 + 4 * n + 1; reason_len = x; body = b; padding_len = length s - b }) ≡ value_in (map_ok bye_view (read_as BYE s))
      reason_there z =
          let w = len_is in
          rw (w, c) (answer_read (read_as BYE s) _ _ (said z) (view_there_lem s b body.within (omega arith)))

    -- and what is left is a reason past it
    pub why_over : value_in (read_as BYE s) ≡ None → 4 + 4 * n ≤ b → (x : ℕ) → x ≡ get_or s (4 + 4 * n) 0 → refused (refusal 2 (4 + 4 * n + 1 + x) b) ≡ read_as BYE s
    why_over z q x f =
        ⊎_elim
        (λ l. sym (over x q (refused_past z) f l))
        (λ l. absurd (answer_some _ _ (said x q (refused_past z) f l) z))
        (split b (4 + 4 * n + 1 + x))

-- ---- what an accepted packet tells

-- the parts of the bytes that were read are the packet's fields
pub record Parts (s : List ℕ) (p : Packet) (a : Bye) : Type 0 where
  pub because : take a.reason_len (drop a.reason s) ≡ reason_bytes (leaving p.content)
  pub tail : take (a.body - (a.reason + a.reason_len)) (drop (a.reason + a.reason_len) s) ≡ tail_bytes (leaving p.content)
  pub padding : take a.padding_len (drop a.body s) ≡ p.padding

record ByeFacts (s : List ℕ) (p : Packet) (a : Bye) : Type 0 where
  few : a.n_sources < 32
  sources : 4 + 4 * a.n_sources ≤ a.body
  within : a.body ≤ length s
  parts : Parts s p a
  source : (i : ℕ) → i < a.n_sources → read_source_at s i ≡ ok (val (take 4 (drop (4 + 4 * i) s)))
  none : (i : ℕ) → a.n_sources ≤ i → read_source_at s i ≡ refuse 25 0 0

few_sources : (s : List ℕ) → low_in s < 32
unfolding low_in
few_sources s = mod-lt (get_or s 0 0) (omega arith)

source_is : (s : List ℕ) (b : ℕ) (l : Leaving) → read_as BYE s ≡ ok (packet_of s b (bye (sources s) l)) → (i : ℕ) → i < low_in s → read_source_at s i ≡ ok (val (take 4 (drop (4 + 4 * i) s)))
unfolding read_source_at ◌>>=◌
source_is s b l e i q = rw e (nth_get 4 (low_in s) i (drop 4 s) q ∙ rw (drop-drop (4 * i) 4 s))

source_past : (s : List ℕ) (b : ℕ) (l : Leaving) → read_as BYE s ≡ ok (packet_of s b (bye (sources s) l)) → (i : ℕ) → low_in s ≤ i → read_source_at s i ≡ refuse 25 0 0
unfolding read_source_at ◌>>=◌
source_past s b l e i q = rw e (nth_past i (sources s) (rw (length_sources s) q))

module _ (s : List ℕ) (b : ℕ) (l : b ≤ length s) where
  padding_there : take (length s - b) (drop b s) ≡ drop b s
  padding_there = take_all (length s - b) (drop b s) (rw length-drop (omega arith))

  facts_none : b ≡ end s → read_as BYE s ≡ ok (packet_of s b (bye (sources s) no_reason)) → ByeFacts s (packet_of s b (bye (sources s) no_reason)) (view_none s b)
  facts_none q e =
      let z : b - (end s + 0) ≡ 0 = omega arith in
      record {
        few = few_sources s;
        sources = omega arith;
        within = l;
        parts = record { because = refl; tail = rw z; padding = padding_there };
        source = source_is s b no_reason e;
        none = source_past s b no_reason e;
      }

  facts_there : end s + 1 + len s ≤ b → read_as BYE s ≡ ok (packet_of s b (bye (sources s) (left s b))) → ByeFacts s (packet_of s b (bye (sources s) (left s b))) (view_there s b)
  facts_there q e =
      record {
        few = few_sources s;
        sources = omega arith;
        within = l;
        parts = record { because = refl; tail = refl; padding = padding_there };
        source = source_is s b (left s b) e;
        none = source_past s b (left s b) e;
      }

facts : (s : List ℕ) (p : Packet) → read_as BYE s ≡ ok p → ByeFacts s p (bye_view p)
facts s p e =
    let g = got BYE s p e in
    let b = g.body in
    let h = g.enough in
    let l = g.within in
    ⊎_elim
    (λ q. absurd (refused≢ok (sym (short s b h l q) ∙ g.content)))
    (λ q.
    ⊎_elim
    (λ z.
    ⊎_elim
    (λ y. absurd (refused≢ok (sym (past s b h l z y) ∙ g.content)))
    (λ y.
    let w = got_is BYE s p g (bye (sources s) (left s b)) (there s b h l z y) in
    subst (λ (p : Packet). ByeFacts s p (bye_view p)) w (subst (ByeFacts s _) (sym (view_there_lem s b l y)) (facts_there s b l y (e ∙ ap ok (sym w)))))
    (split b (end s + 1 + len s)))
    (λ z.
    let f : b ≡ end s = omega arith in
    let w = got_is BYE s p g (bye (sources s) no_reason) (none s b h l f) in
    subst (λ (p : Packet). ByeFacts s p (bye_view p)) w (subst (ByeFacts s _) (sym (view_none_lem s b f)) (facts_none s b l f (e ∙ ap ok (sym w)))))
    (split (end s) b))
    (split b (end s))

-- ---- by what was read

module _ (s : List ℕ) (o : Bye) where
  module _ (h : ok o ≡ map_ok bye_view (read_as BYE s)) where
    bye_facts : (p : Packet) × ByeFacts s p o
    bye_facts = let m = map_ok_inv bye_view (read_as BYE s) (sym h) in (m.0, subst (ByeFacts s m.0) m.2 (facts s m.0 m.1))

    module _ (i : ℕ) where
      pub source_none : o.n_sources ≤ i → refuse 25 0 0 ≡ read_source_at s i
      source_none l = sym (bye_facts.1.none i l)

      pub source_there : (x : ℕ) → i < o.n_sources → x ≡ val (take 4 (drop (4 + 4 * i) s)) → ok x ≡ read_source_at s i
      source_there x l q = ap ok q ∙ sym (bye_facts.1.source i l)

      pub source_scaled : i < o.n_sources → 4 * i < 2 ^ 64
      source_scaled l = let w = bye_facts.1 in omega arith

      pub source_fits : i < o.n_sources → 4 + 4 * i < 2 ^ 64
      source_fits l = let w = bye_facts.1 in omega arith

      pub source_within : i < o.n_sources → 4 + 4 * i + 4 ≤ length s
      source_within l = let w = bye_facts.1 in omega arith

-- a refusal of the packet, handed on
pub source_handed : (s : List ℕ) (i : ℕ) (k : Refusal) → refused k ≡ map_ok bye_view (read_as BYE s) → refused k ≡ read_source_at s i
unfolding read_source_at ◌>>=◌
source_handed s i k h = rw (map_ok_refused bye_view (read_as BYE s) (sym h))

-- ---- parts

pub parts : (s : List ℕ) (p : Packet) → read_as BYE s ≡ ok p → Parts s p (bye_view p)
parts s p e = (facts s p e).parts

-- where the body ends ahead of the reason's end there is no tail
module _ (b r n : ℕ) (s : List ℕ) where
  pub tail_before : b < r → take 0 s ≡ take (b - (r + n)) (drop (r + n) s)
  tail_before h = let z : b - (r + n) ≡ 0 = omega arith in rw z

  pub tail_within : b - r < n → take 0 s ≡ take (b - (r + n)) (drop (r + n) s)
  tail_within h = let z : b - (r + n) ≡ 0 = omega arith in rw z

  pub tail_is : (l : List ℕ) → n ≤ b - r → l ≡ take (b - r - n) (drop (r + n) s) → l ≡ take (b - (r + n)) (drop (r + n) s)
  tail_is l h e = let z : b - r - n ≡ b - (r + n) = omega arith in e ∙ rw z

pub ruleset readings = (rules, none_header, why_header, header_refuses, bye_header, bye_body, none_cut, why_cut, reason_none, length_there, length_refused, none_over, reason_there, why_over)

pub ruleset byes = (rules, parse_handed, source_handed, source_none, source_there, tail_before, tail_within, tail_is)
