-- A packet of a kind, from its header on: the header's answer first, then the content's, over the kind.
use Rattle.std.specs.Prelude.{None, Some}
use Rattle.rfc3550.proofs.Prelude.{◌≡◌, refl, ap, ◌∙◌, sym, List, [], ℕ, ◌-◌, ◌≤◌, arith, length, take, drop, length-drop, take_all}
use Rattle.rfc3550.specs.Answer.{Refusal, Answer, ok, refused, ◌>>=◌, map_ok}
use Rattle.rfc3550.specs.Packet.{Content, Packet}
use Rattle.rfc3550.specs.Read.{Kind, SR, RR, SDES, BYE, APP, UNKNOWN, least, low_in, type_in, check_packet, read_content, read_as}
use Rattle.rfc3550.proofs.Answers.{bind_elim, ok_injective, refused≢ok}
use Rattle.utils.specs.Error.{value_in}
use Rattle.utils.specs.Parts.{part_in}
use Rattle.utils.proofs.Headers.{Accepted, accepted}
use Rattle.utils.proofs.Values.{value_is, none_refused, none_viewed}

-- the packet of a content, in a packet with this body
abbrev pub packet_of : List ℕ → ℕ → Content → Packet
packet_of s body c = record { content = c; padding = drop body s }

-- what is read as the content
abbrev pub content_in : Kind → List ℕ → ℕ → Answer Content
content_in k s body = read_content k (low_in s) (type_in s) (drop 4 (take body s))

pub least_four : (k : Kind) → 4 ≤ least k
least_four SR = omega arith
least_four RR = omega arith
least_four SDES = omega arith
least_four BYE = omega arith
least_four APP = omega arith
least_four UNKNOWN = omega arith

module _ (k : Kind) (s : List ℕ) where
  pub read_content_lem : (b : ℕ) → check_packet k s ≡ ok b → read_as k s ≡ map_ok (packet_of s b) (content_in k s b)
  unfolding read_as ◌>>=◌ map_ok
  read_content_lem b e = rw e (go (content_in k s b))
    where
      go : (a : Answer Content) → (a >>= λ c. ok (packet_of s b c)) ≡ map_ok (packet_of s b) a
      go (ok c) = refl
      go (refused r) = refl

  -- what an accepted packet tells
  pub record Got (p : Packet) : Type 0 where
    pub body : ℕ
    pub checked : check_packet k s ≡ ok body
    pub content : content_in k s body ≡ ok p.content
    pub padding : drop body s ≡ p.padding
    pub enough : least k ≤ body
    pub within : body ≤ length s

  pub got : (p : Packet) → read_as k s ≡ ok p → Got p
  unfolding read_as
  got p e =
      bind_elim (check_packet k s) _ e (λ b q e₁.
      bind_elim _ _ e₁ (λ c r e₂.
      let w : packet_of s b c ≡ p = ok_injective e₂ in
      let a = accepted _ _ _ s b q in
      record {
        body = b;
        checked = q;
        content = r ∙ ap (λ (p : Packet). ok p.content) w;
        padding = ap (λ (p : Packet). p.padding) w;
        enough = a.enough;
        within = a.within;
      }))

  pub got_is : (p : Packet) (g : Got p) (c : Content) → content_in k s g.body ≡ ok c → packet_of s g.body c ≡ p
  got_is p g c q =
      let f : c ≡ p.content = ok_injective (sym q ∙ g.content) in
      ap (packet_of s g.body) f ∙ ap (λ (l : List ℕ). record { content = p.content; padding = l }) g.padding

  -- where the header refuses
  pub none_at_header : value_in (check_packet k s) ≡ None → value_in (read_as k s) ≡ None
  unfolding read_as ◌>>=◌
  none_at_header z = let x = none_refused (check_packet k s) z in rw (x.1)

  pub none_viewed_at_header : {B : Type 0} (view : Packet → B) → None ≡ value_in (check_packet k s) → None ≡ value_in (map_ok view (read_as k s))
  none_viewed_at_header view z = none_viewed view (read_as k s) (none_at_header (sym z))

  pub why_at_header : (r : Refusal) → refused r ≡ check_packet k s → refused r ≡ read_as k s
  unfolding read_as ◌>>=◌
  why_at_header r e = rw (sym e)

  -- where it has a body
  module _ (b : ℕ) (h : Some b ≡ value_in (check_packet k s)) where
    pub body_accepted : Accepted (least k) s b
    body_accepted = accepted _ _ _ s b (sym (value_is (check_packet k s) b h))

    pub body_content : read_as k s ≡ map_ok (packet_of s b) (content_in k s b)
    body_content = read_content_lem b (sym (value_is (check_packet k s) b h))

  -- a kind whose content refuses nothing is refused by its header alone
  pub none_read : ((b : ℕ) → Accepted (least k) s b → (c : Content) × (content_in k s b ≡ ok c)) → value_in (read_as k s) ≡ None → value_in (check_packet k s) ≡ None
  unfolding read_as ◌>>=◌
  none_read f z = go (check_packet k s) refl
    where
      go : (m : Answer ℕ) → check_packet k s ≡ m → value_in m ≡ None
      go (ok b) e = let x : value_in (read_as k s) ≡ Some (packet_of s b (f b (accepted _ _ _ s b e)).0) = rw (e, (f b (accepted _ _ _ s b e)).1) in let y = sym x ∙ z in cc
      go (refused r) e = refl

pub map_ok_refused : {A B : Type 0} (f : A → B) (m : Answer A) {r : Refusal} → map_ok f m ≡ refused r → m ≡ refused r
unfolding map_ok
map_ok_refused f (ok a) h = absurd (refused≢ok (sym h))
map_ok_refused f (refused x) h = cc

-- a reading that refuses has no part
pub part_refused : {R : Type 0} (view : Packet → R) (a : Answer R) (r : Refusal) (part : Packet → List ℕ) (m : Answer Packet) → a ≡ refused r → a ≡ map_ok view m → [] ≡ part_in part m
unfolding map_ok part_in
part_refused view a r part (ok p) e h = absurd (refused≢ok (sym e ∙ h))
part_refused view a r part (refused x) e h = refl

-- the padding, by the body's end
pub padding_is : (k : Kind) (s : List ℕ) (p : Packet) (g : Got k s p) → take (length s - g.body) (drop g.body s) ≡ p.padding
padding_is k s p g = take_all (length s - g.body) (drop g.body s) (rw length-drop (omega arith)) ∙ g.padding

-- the same, by its own length
pub padding_here : (k : Kind) (s : List ℕ) (p : Packet) (g : Got k s p) → take (length p.padding) (drop g.body s) ≡ p.padding
padding_here k s p g = rw g.padding (take_all (length p.padding) p.padding (omega arith))
