-- One packet: reading its layout gives it back, and what is read is valid and has the bytes as its layout. Over the kind.
use Rattle.rfc3550.proofs.Prelude.{ℕ, ◌+◌, ◌-◌, ◌/◌, ◌%◌, ◌<◌, ◌≤◌, ◌≡◌, refl, sym, ap, ◌∙◌, subst, ◌↔◌, Bool, true, false, not, ◌&&◌, ◌||◌, List, [], ◌∷◌, ◌++◌, append_assoc, arith, length, take, drop, get_or, length-append, length-drop, take-append-drop, take_at, drop_at, length-take-le, get_or-append-add, get_or-drop, drop-append-le, leb, ltb, eqb, le-leb, leb-true, lt-ltb, ltb-true, eqb-true, eqb-false, eq-eqb, ne_eqb}
use Rattle.rfc3550.specs.Answer.{Answer, ok, ◌>>=◌, ◌>>◌, need, pick}
use Rattle.rfc3550.specs.Bytes.{Bytes, be, val}
use Rattle.rfc3550.specs.Packet.{Content, Packet, content_bytes, low_bits, type, padding_bit, layout, PaddingValid, Valid}
use Rattle.rfc3550.specs.Read.{Kind, SR, RR, SDES, BYE, APP, UNKNOWN, least, kind_for, of_kind, kind_of, version_in, padded, low_in, type_in, stated, padding_count, padding_fits, check_header, read_content, read_as}
use Rattle.rfc3550.proofs.Answers.{need_inv, bind_elim, ok_injective, and_inv}
use Rattle.rfc3550.proofs.Bytes.{length_be, val_be, be_take, val_take_lt, bytes_take, bytes_drop, bytes_get_or}
use Rattle.rfc3550.proofs.Contents.{of_kind_lem, kind_of_is, least_content, content_complete, ContentGot, content_sound, content_kind}

-- ---- the first byte, and the last

first_byte : (padding : List ℕ) (n : ℕ) → n < 32 → ((128 + padding_bit padding + n) / 64 ≡ 2) × ((128 + padding_bit padding + n) % 32 ≡ n)
first_byte [] n h = omega arith
first_byte (b ∷ bs) n h = omega arith

last_append : (a b : List ℕ) → 0 < length b → get_or (a ++ b) (length (a ++ b) - 1) 0 ≡ get_or b (length b - 1) 0
last_append a b h =
    let e : length a + length b - 1 ≡ length a + (length b - 1) = omega arith in
    rw (length-append a b, e) (get_or-append-add a b (length b - 1) 0)

last_count : (a padding : List ℕ) (n : ℕ) → n < 32 → PaddingValid padding
    → pick (eqb ((128 + padding_bit padding + n) / 32 % 2) 1) (get_or (a ++ padding) (length (a ++ padding) - 1) 0) 0 ≡ length padding
last_count a [] n h v = rw (ne_eqb ((128 + 0 + n) / 32 % 2) 1 (omega arith))
last_count a (b ∷ bs) n h v = rw (eq-eqb ((128 + 32 + n) / 32 % 2) 1 (omega arith), last_append a (b ∷ bs) (omega arith)) v.1

padding_fits_lem : (l k n : ℕ) (t : Bool) (padding : List ℕ) → t ≡ eqb ((128 + padding_bit padding + k) / 32 % 2) 1 → k < 32 → PaddingValid padding → l + length padding ≤ n
    → not t || (ltb 0 (length padding) && eqb (length padding % 4) 0 && leb (length padding + l) n) ≡ true
padding_fits_lem l k n t [] e h v q = rw (e, ne_eqb ((128 + 0 + k) / 32 % 2) 1 (omega arith))
padding_fits_lem l k n t (b ∷ bs) e h v q =
    rw (e, eq-eqb ((128 + 32 + k) / 32 % 2) 1 (omega arith), lt-ltb 0 (length (b ∷ bs)) (omega arith), v.0, le-leb (length (b ∷ bs) + l) n (omega arith))

-- ---- what the header of a layout says

abbrev head : Packet → List ℕ
head p = (128 + padding_bit p.padding + low_bits p.content) ∷ type p.content ∷ be 2 ((length (content_bytes p.content) + length p.padding) / 4)

pub length_layout : (p : Packet) → length (layout p) ≡ 4 + (length (content_bytes p.content) + length p.padding)
unfolding layout
length_layout p = simp (length-append, length_be) (omega arith)

module _ (p : Packet) (v : Valid p) where
  head_length : length (head p) ≡ 4
  head_length = rw length_be

  split : layout p ≡ (head p ++ content_bytes p.content) ++ p.padding
  unfolding layout
  split = sym (append_assoc (head p) (content_bytes p.content) p.padding)

  body_length : length (layout p) - length p.padding ≡ length (head p ++ content_bytes p.content)
  body_length = rw (length_layout p, length-append (head p) (content_bytes p.content), head_length) (omega arith)

  pub version_is : version_in (layout p) ≡ 2
  unfolding layout version_in
  version_is = (first_byte p.padding (low_bits p.content) v.low).0

  pub low_is : low_in (layout p) ≡ low_bits p.content
  unfolding layout low_in
  low_is = (first_byte p.padding (low_bits p.content) v.low).1

  pub type_is : type_in (layout p) ≡ type p.content
  unfolding layout type_in
  type_is = refl

  field_is : val (take 2 (drop 2 (layout p))) ≡ (length (content_bytes p.content) + length p.padding) / 4
  unfolding layout
  field_is =
      let m : ℕ = (length (content_bytes p.content) + length p.padding) / 4 in
      rw (take_at (be 2 m) (content_bytes p.content ++ p.padding) 2 (length_be 2 m)) (val_be 2 m (omega (arith, v.size)))

  pub stated_is : stated (layout p) ≡ length (layout p)
  unfolding stated
  stated_is = rw (field_is, length_layout p) (omega (arith, v.words))

  pub padding_count_is : padding_count (layout p) ≡ length p.padding
  unfolding padding_count padded
  padding_count_is = rw split (last_count (head p ++ content_bytes p.content) p.padding (low_bits p.content) v.low v.padding)

  padding_fits_is : (l : ℕ) → l ≤ 4 + length (content_bytes p.content) → padding_fits l (layout p) ≡ true
  unfolding padding_fits padded layout
  padding_fits_is l h =
      rw padding_count_is (padding_fits_lem l (low_bits p.content) (length (layout p)) (padded (layout p)) p.padding refl v.low v.padding (rw (length_layout p) (omega arith)))

  content_is : drop 4 (take (length (layout p) - length p.padding) (layout p)) ≡ content_bytes p.content
  content_is =
      ap (λ (l : List ℕ). drop 4 (take (length (layout p) - length p.padding) l)) split
      ∙ rw (take_at (head p ++ content_bytes p.content) p.padding (length (layout p) - length p.padding) (sym body_length)) (drop_at (head p) (content_bytes p.content) 4 head_length)

  padding_is : drop (length (layout p) - length p.padding) (layout p) ≡ p.padding
  padding_is =
      ap (drop (length (layout p) - length p.padding)) split
      ∙ drop_at (head p ++ content_bytes p.content) p.padding (length (layout p) - length p.padding) (sym body_length)

  header_complete : (t : Bool) (n : ℕ × ℕ) → t ≡ true → check_header (least (kind_for p.content)) t n (layout p) ≡ ok (length (layout p) - length p.padding)
  unfolding check_header need ◌>>◌
  header_complete t n e =
      let l = least_content p.content v.content in
      simp (
        e,
        version_is,
        stated_is,
        padding_fits_is (least (kind_for p.content)) l,
        padding_count_is,
        le-leb (least (kind_for p.content)) (length (layout p)) (rw (length_layout p) (omega arith)),
        le-leb (length (layout p)) (length (layout p)) (omega arith),
      )

  pub packet_complete : read_as (kind_for p.content) (layout p) ≡ ok p
  unfolding read_as ◌>>=◌
  packet_complete =
      rw (
        header_complete (of_kind (kind_for p.content) (type_in (layout p)) (low_in (layout p))) _ (rw (low_is, type_is) (of_kind_lem p.content v.content)),
        content_is,
        low_is,
        type_is,
        content_complete p.content v.content,
        padding_is,
      )

-- ---- what an accepted packet is

pub record Checked (least : ℕ) (s : List ℕ) : Type 0 where
  pub long : least ≤ length s
  pub version : version_in s ≡ 2
  pub stated : stated s ≡ length s
  pub padding : padding_fits least s ≡ true

pub header_inv : (least : ℕ) (t : Bool) (n : ℕ × ℕ) (s : List ℕ) {body : ℕ} → check_header least t n s ≡ ok body → Checked least s × (t ≡ true) × (body ≡ length s - padding_count s)
unfolding check_header
header_inv least t n s e =
    let a = need_inv _ _ _ _ _ e in
    let b = need_inv _ _ _ _ _ a.1 in
    let c = need_inv _ _ _ _ _ b.1 in
    let d = need_inv _ _ _ _ _ c.1 in
    let f = need_inv _ _ _ _ _ d.1 in
    let g = need_inv _ _ _ _ _ f.1 in
    let le : stated s ≤ length s = leb-true _ _ d.0 in
    let ge : length s ≤ stated s = leb-true _ _ f.0 in
    (record { long = leb-true _ _ a.0; version = eqb-true _ _ b.0; stated = omega arith; padding = g.0 }, c.0, sym (ok_injective g.1))

data PaddingSays (l : ℕ) (s : List ℕ) : Type 0 where
  none : padded s ≡ false → padding_count s ≡ 0 → PaddingSays l s
  some : padded s ≡ true → 0 < padding_count s → padding_count s % 4 ≡ 0 → padding_count s + l ≤ length s → padding_count s ≡ get_or s (length s - 1) 0 → PaddingSays l s

padding_says : (l : ℕ) (s : List ℕ) → padding_fits l s ≡ true → PaddingSays l s
unfolding padding_fits padding_count
padding_says l s h = go (padded s) refl h
  where
    go : (t : Bool) → padded s ≡ t → not t || (ltb 0 (padding_count s) && eqb (padding_count s % 4) 0 && leb (padding_count s + l) (length s)) ≡ true → PaddingSays l s
    go false e h = none e (rw e)
    go true e h =
        let a = and_inv _ _ h in
        let b = and_inv _ _ a.0 in
        some e (ltb-true _ _ b.0) (eqb-true _ _ b.1) (leb-true _ _ a.1) (rw e)

pub four_le_least : (k : Kind) → 4 ≤ least k
four_le_least SR = omega arith
four_le_least RR = omega arith
four_le_least SDES = omega arith
four_le_least BYE = omega arith
four_le_least APP = omega arith
four_le_least UNKNOWN = omega arith

bit_some : (l : List ℕ) → 0 < length l → padding_bit l ≡ 32
bit_some [] h = absurd (omega arith)
bit_some (b ∷ bs) h = refl

bit_none : (l : List ℕ) → length l ≡ 0 → padding_bit l ≡ 0
bit_none [] h = refl
bit_none (b ∷ bs) h = absurd (omega arith)

padding_none : (l : List ℕ) → length l ≡ 0 → PaddingValid l
padding_none [] h = (refl, refl, tt)
padding_none (b ∷ bs) h = absurd (omega arith)

-- the parts that the header's steps cut: the bytes of the body after the header, and the padding
abbrev inner : List ℕ → List ℕ
inner s = drop 4 (take (length s - padding_count s) s)

abbrev outer : List ℕ → List ℕ
outer s = drop (length s - padding_count s) s

record Cut (k : ℕ) (s : List ℕ) : Type 0 where
  least : k ≤ 4 + length (inner s)
  parts : inner s ++ outer s ≡ drop 4 s
  sum : length (inner s) + length (outer s) + 4 ≡ length s
  padding : PaddingValid (outer s)
  first : version_in s ≡ 2 → 128 + padding_bit (outer s) + low_in s ≡ get_or s 0 0

module _ (s : List ℕ) (h : Bytes s) where
  outer_length : padding_count s ≤ length s → length (outer s) ≡ padding_count s
  outer_length l = rw length-drop (omega arith)

  cut_parts : padding_count s + 4 ≤ length s → inner s ++ outer s ≡ drop 4 s
  cut_parts l =
      let n : ℕ = length s - padding_count s in
      let m : 4 ≤ length (take n s) = rw (length-take-le n s (omega arith)) (omega arith) in
      sym (drop-append-le 4 (take n s) (drop n s) m) ∙ ap (drop 4) (take-append-drop n s)

  cut_sum : padding_count s + 4 ≤ length s → length (inner s) + length (outer s) + 4 ≡ length s
  cut_sum l = omega (arith, length-append (inner s) (outer s), ap length (cut_parts l), length-drop 4 s)

  cut_last : padding_count s ≤ length s → 0 < padding_count s → get_or (outer s) (padding_count s - 1) 0 ≡ get_or s (length s - 1) 0
  cut_last l p =
      let e : length s - padding_count s + (padding_count s - 1) ≡ length s - 1 = omega arith in
      rw (get_or-drop (length s - padding_count s) s (padding_count s - 1) 0, e)

  cut : (k : ℕ) → 4 ≤ k → k ≤ length s → PaddingSays k s → Cut k s
  unfolding version_in low_in padded
  cut k f l (none e z) =
      let q : padding_count s + 4 ≤ length s = omega arith in
      let n : length (outer s) ≡ 0 = outer_length (omega arith) ∙ z in
      record {
        least = omega (arith, cut_sum q);
        parts = cut_parts q;
        sum = cut_sum q;
        padding = padding_none (outer s) n;
        first = λ w. rw (bit_none (outer s) n) (omega (arith, eqb-false (get_or s 0 0 / 32 % 2) 1 e));
      }
  cut k f l (some e p m b t) =
      let q : padding_count s + 4 ≤ length s = omega arith in
      let n : length (outer s) ≡ padding_count s = outer_length (omega arith) in
      record {
        least = omega (arith, cut_sum q);
        parts = cut_parts q;
        sum = cut_sum q;
        padding = (rw n m, rw n (cut_last (omega arith) p ∙ sym t), bytes_drop (length s - padding_count s) s h);
        first = λ w. rw (bit_some (outer s) (omega arith)) (omega (arith, eqb-true (get_or s 0 0 / 32 % 2) 1 e));
      }

-- the four bytes of the header, and the rest
header : (s : List ℕ) → 4 ≤ length s → s ≡ get_or s 0 0 ∷ get_or s 1 0 ∷ (take 2 (drop 2 s) ++ drop 4 s)
header [] l = absurd (omega arith)
header (a ∷ []) l = absurd (omega arith)
header (a ∷ b ∷ []) l = absurd (omega arith)
header (a ∷ b ∷ c ∷ []) l = absurd (omega arith)
header (a ∷ b ∷ c ∷ d ∷ s) l = refl

-- the length field, where the stated length is the length
field_back : (s : List ℕ) (n : ℕ) → Bytes s → stated s ≡ length s → n + 4 ≡ length s → be 2 (n / 4) ≡ take 2 (drop 2 s)
unfolding stated
field_back s n h e q =
    let m : n / 4 ≡ val (take 2 (drop 2 s)) = omega arith in
    rw m (be_take 2 (drop 2 s) (rw length-drop (omega arith)) (bytes_drop 2 s h))

module _ (k : Kind) (s : List ℕ) (c : Content) (h : Bytes s) (w : Checked (least k) s) (x : Cut (least k) s) (g : ContentGot k (low_in s) (type_in s) (inner s) c) where
  sound_sum : length (content_bytes c) + length (outer s) + 4 ≡ length s
  sound_sum = rw g.bytes x.sum

  sound_valid : Valid (record { content = c; padding = outer s })
  unfolding stated low_in
  sound_valid =
      let small : val (take 2 (drop 2 s)) < 65536 = val_take_lt 2 (drop 2 s) (rw length-drop (omega (arith, w.long, four_le_least k))) (bytes_drop 2 s h) in
      record { content = g.valid; low = rw g.count (omega arith); padding = x.padding; words = omega (arith, sound_sum, w.stated); size = omega (arith, sound_sum, w.stated) }

  sound_layout : layout (record { content = c; padding = outer s }) ≡ s
  unfolding layout type_in
  sound_layout =
      rw (field_back s (length (content_bytes c) + length (outer s)) h w.stated sound_sum, g.count, g.kind, g.bytes, x.first w.version, x.parts)
      (sym (header s (omega (arith, w.long, four_le_least k))))

pub packet_sound : (k : Kind) (s : List ℕ) (p : Packet) → Bytes s → read_as k s ≡ ok p → Valid p × (kind_for p.content ≡ k) × (layout p ≡ s)
unfolding read_as type_in
packet_sound k s p h e =
    bind_elim _ _ e (λ body q e₁.
    bind_elim _ _ e₁ (λ c r e₂.
    let i = header_inv (least k) _ _ s q in
    let w = i.0 in
    let x = cut s h (least k) (four_le_least k) w.long (padding_says (least k) s w.padding) in
    let b : Bytes (inner s) = bytes_drop 4 (take (length s - padding_count s) s) (bytes_take (length s - padding_count s) s h) in
    let f : read_content k (low_in s) (type_in s) (inner s) ≡ ok c = subst (λ (n : ℕ). read_content k (low_in s) (type_in s) (drop 4 (take n s)) ≡ ok c) i.2 r in
    let g = content_sound k (low_in s) (type_in s) (inner s) b (bytes_get_or s 1 h) i.1 x.least f in
    subst (λ (p : Packet). Valid p × (kind_for p.content ≡ k) × (layout p ≡ s))
    (ap (λ (n : ℕ). record { content = c; padding = drop n s }) (sym i.2) ∙ ok_injective e₂)
    (sound_valid k s c h w x g, g.of, sound_layout k s c h w x g)))

-- ---- the theorems of one packet

-- the reading gives p of bytes exactly when p is valid, of that kind, and laid out as those bytes
pub packet_iff : (k : Kind) (s : List ℕ) (p : Packet) → Bytes s → (read_as k s ≡ ok p) ↔ (Valid p × (kind_for p.content ≡ k) × (layout p ≡ s))
packet_iff k s p h = (packet_sound k s p h, λ v. ap (read_as k) (sym v.2) ∙ ap (λ (k : Kind). read_as k (layout p)) (sym v.1) ∙ packet_complete p v.0)

-- the kind that the type and the low bits lead to
pub kind_is : (p : Packet) → Valid p → kind_of (type_in (layout p)) (low_in (layout p)) ≡ kind_for p.content
kind_is p v = rw (type_is p v, low_is p v) (kind_of_is p.content v.content)

pub layout_injective : (p q : Packet) → Valid p → Valid q → layout p ≡ layout q → p ≡ q
layout_injective p q v w e =
    let read : List ℕ → Answer Packet = λ s. read_as (kind_of (type_in s) (low_in s)) s in
    let c : read (layout p) ≡ ok p = rw (kind_is p v) (packet_complete p v) in
    let d : read (layout q) ≡ ok q = rw (kind_is q w) (packet_complete q w) in
    ok_injective (sym c ∙ ap read e ∙ d)

pub read_as_kind : (k : Kind) (s : List ℕ) {p : Packet} → read_as k s ≡ ok p → kind_for p.content ≡ k
unfolding read_as
read_as_kind k s e =
    bind_elim _ _ e (λ body q e₁.
    bind_elim _ _ e₁ (λ c r e₂. ap (λ (p : Packet). kind_for p.content) (sym (ok_injective e₂)) ∙ content_kind k (low_in s) (type_in s) (drop 4 (take body s)) r))
