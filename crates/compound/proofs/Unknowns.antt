-- Reading an unknown packet, from what a reader has tested, and what the parts of an accepted one are.
use Rattle.std.specs.Prelude.{Option, None, Some}
use Rattle.rfc3550.proofs.Prelude.{rules, ◌≡◌, refl, ap, ◌∙◌, sym, Bool, List, ℕ, ◌+◌, ◌-◌, ◌≤◌, arith, length, take, drop, length-drop, length-take-le}
use Rattle.rfc3550.specs.Answer.{Refusal, ok, refused, map_ok}
use Rattle.rfc3550.specs.Packet.{Content, unknown, Packet}
use Rattle.rfc3550.specs.Read.{UNKNOWN, of_kind, low_in, type_in, check_header, check_packet, read_content, read_as}
use Rattle.rfc3550.proofs.Answers.{ok_injective}
use Rattle.utils.specs.Error.{value_in}
use Rattle.utils.proofs.Headers.{unnamed}
use Rattle.utils.proofs.Reading.{content_in, got, none_viewed_at_header, why_at_header, none_read, body_accepted, body_content, padding_here}
use Rattle.utils.proofs.Parts.{drop_take}
use Rattle.compound.specs.Unknown.{body_of, unknown_view}

content : (s : List ℕ) (b : ℕ) → content_in UNKNOWN s b ≡ ok (unknown (type_in s) (low_in s) (take (b - 4) (drop 4 s)))
unfolding read_content
content s b = rw (drop_take 4 b s)

length_body : (s : List ℕ) (b : ℕ) → 4 ≤ b → b ≤ length s → 4 + length (take (b - 4) (drop 4 s)) ≡ b
length_body s b h l = rw (length-take-le (b - 4) (drop 4 s) (rw length-drop (omega arith))) (omega arith)

module _ (s : List ℕ) (w : Bool) (f : w ≡ of_kind UNKNOWN (type_in s) (low_in s)) where
  header : (o : Option ℕ) → o ≡ value_in (check_header 4 w (0, 0) s) → o ≡ value_in (check_packet UNKNOWN s)
  header o g = g ∙ unnamed 4 w (0, 0) (type_in s, 0) s ∙ ap (λ (w : Bool). value_in (check_header 4 w (type_in s, 0) s)) f

  pub unknown_none : None ≡ value_in (check_header 4 w (0, 0) s) → None ≡ value_in (map_ok unknown_view (read_as UNKNOWN s))
  unknown_none g = none_viewed_at_header UNKNOWN s unknown_view (header None g)

  module _ (b : ℕ) (g : Some b ≡ value_in (check_header 4 w (0, 0) s)) where
    pub unknown_body : b ≤ length s
    unknown_body = (body_accepted UNKNOWN s b (header (Some b) g)).within

    pub unknown_read : (x n : ℕ) → x ≡ type_in s → n ≡ low_in s
        → Some (record { packet_type = x; count = n; body = b; padding_len = length s - b }) ≡ value_in (map_ok unknown_view (read_as UNKNOWN s))
    unfolding map_ok
    unknown_read x n p q =
        let a = body_accepted UNKNOWN s b (header (Some b) g) in
        rw (body_content UNKNOWN s b (header (Some b) g), content s b, length_body s b a.enough a.within, length-drop b s, p, q)

  module _ (t : ℕ) (e : t ≡ type_in s) where
    -- the header refuses, or nothing does
    pub unknown_refuses : value_in (read_as UNKNOWN s) ≡ None → value_in (check_header 4 w (t, 0) s) ≡ None
    unknown_refuses z = rw (f, e) (none_read UNKNOWN s (λ b a. (unknown (type_in s) (low_in s) (take (b - 4) (drop 4 s)), content s b)) z)

    pub unknown_why : (r : Refusal) → refused r ≡ check_header 4 w (t, 0) s → refused r ≡ read_as UNKNOWN s
    unknown_why r q =
        why_at_header UNKNOWN s r (q ∙ ap (λ (w : Bool). check_header 4 w (t, 0) s) f ∙ ap (λ (t : ℕ). check_header 4 (of_kind UNKNOWN (type_in s) (low_in s)) (t, 0) s) e)

pub ruleset unknowns = (rules, unknown_none, unknown_body, unknown_read, unknown_refuses, unknown_why)

-- ---- the parts of an accepted packet

module _ (s : List ℕ) (p : Packet) (e : read_as UNKNOWN s ≡ ok p) where
  body_is : 4 + length (body_of p.content) ≡ (got UNKNOWN s p e).body
  body_is =
      let g = got UNKNOWN s p e in
      let c : unknown (type_in s) (low_in s) (take (g.body - 4) (drop 4 s)) ≡ p.content = ok_injective (sym (content s g.body) ∙ g.content) in
      ap (λ (c : Content). 4 + length (body_of c)) (sym c) ∙ length_body s g.body g.enough g.within

  pub body_part : take ((unknown_view p).body - 4) (drop 4 s) ≡ body_of p.content
  body_part =
      let g = got UNKNOWN s p e in
      let c : unknown (type_in s) (low_in s) (take (g.body - 4) (drop 4 s)) ≡ p.content = ok_injective (sym (content s g.body) ∙ g.content) in
      rw body_is (ap body_of c)

  pub padding_part : take (unknown_view p).padding_len (drop (unknown_view p).body s) ≡ p.padding
  padding_part = rw body_is (padding_here UNKNOWN s p (got UNKNOWN s p e))
