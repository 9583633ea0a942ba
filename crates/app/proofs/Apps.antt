-- Reading an APP packet, from what a reader has tested, and its parts by place.
use Rattle.std.specs.Prelude.{None, Some}
use Rattle.rfc3550.proofs.Prelude.{rules, ◌≡◌, refl, ap, ◌∙◌, sym, List, ℕ, ◌+◌, ◌-◌, ◌<◌, ◌≤◌, arith, length, take, drop, length-drop, drop-drop, length-take-le}
use Rattle.rfc3550.specs.Answer.{Refusal, ok, refused, map_ok}
use Rattle.rfc3550.specs.Bytes.{val}
use Rattle.rfc3550.specs.Packet.{Content, app, Packet}
use Rattle.rfc3550.specs.Read.{APP, low_in, check_packet, read_content, read_as}
use Rattle.rfc3550.proofs.Answers.{ok_injective}
use Rattle.utils.specs.Error.{value_in}
use Rattle.utils.proofs.Headers.{Accepted}
use Rattle.utils.proofs.Reading.{content_in, got, none_viewed_at_header, why_at_header, none_read, body_accepted, body_content, padding_is}
use Rattle.utils.proofs.Parts.{drop_take, take_drop_take}
use Rattle.app.specs.declared.App.{App}
use Rattle.app.specs.App.{app_view, name_of, data_of}

-- the content by places in the packet
abbrev placed : List ℕ → ℕ → Content
placed s b = app (low_in s) (val (take 4 (drop 4 s))) (take 4 (drop 8 s)) (take (b - 12) (drop 12 s))

content : (s : List ℕ) (b : ℕ) → 12 ≤ b → content_in APP s b ≡ ok (placed s b)
unfolding read_content
content s b h =
    rw (drop-drop 8 4 (take b s), drop-drop 4 4 (take b s), take_drop_take 4 4 b s (omega arith), take_drop_take 4 8 b s (omega arith), drop_take 12 b s)

length_data : (s : List ℕ) (b : ℕ) → b ≤ length s → length (take (b - 12) (drop 12 s)) ≡ b - 12
length_data s b l = length-take-le (b - 12) (drop 12 s) (rw length-drop (omega arith))

-- ---- by the body of the header

pub app_none : (s : List ℕ) → None ≡ value_in (check_packet APP s) → None ≡ value_in (map_ok app_view (read_as APP s))
app_none s z = none_viewed_at_header APP s app_view z

module _ (s : List ℕ) (b : ℕ) (h : Some b ≡ value_in (check_packet APP s)) where
  body : Accepted 12 s b
  body = body_accepted APP s b h

  pub app_header : (n : ℕ) → n ≤ 12 → n ≤ length s
  app_header n l = let a = body in omega arith

  pub app_within : b ≤ length s
  app_within = body.within

  pub app_read : (x n : ℕ) → x ≡ val (take 4 (drop 4 s)) → n ≡ low_in s
      → Some (record { ssrc = x; subtype = n; body = b; padding_len = length s - b }) ≡ value_in (map_ok app_view (read_as APP s))
  unfolding map_ok
  app_read x n p q =
      let e : 12 + (b - 12) ≡ b = omega (arith, body.enough) in
      rw (body_content APP s b h, content s b body.enough, length_data s b body.within, length-drop b s, e, p, q)

-- the content refuses nothing
pub app_header_refuses : (s : List ℕ) → value_in (read_as APP s) ≡ None → value_in (check_packet APP s) ≡ None
app_header_refuses s z = none_read APP s (λ b a. (placed s b, content s b a.enough)) z

pub app_why : (s : List ℕ) (r : Refusal) → refused r ≡ check_packet APP s → refused r ≡ read_as APP s
app_why s r e = why_at_header APP s r e

-- ---- the parts of the bytes that were read are the packet's fields

pub record Parts (s : List ℕ) (p : Packet) (a : App) : Type 0 where
  pub name : take 4 (drop 8 s) ≡ name_of p.content
  pub payload : take (a.body - 12) (drop 12 s) ≡ data_of p.content
  pub padding : take a.padding_len (drop a.body s) ≡ p.padding

pub parts : (s : List ℕ) (p : Packet) → read_as APP s ≡ ok p → Parts s p (app_view p)
parts s p e =
    let g = got APP s p e in
    let c : placed s g.body ≡ p.content = ok_injective (sym (content s g.body g.enough) ∙ g.content) in
    let n : length (data_of p.content) ≡ g.body - 12 = ap (λ (c : Content). length (data_of c)) (sym c) ∙ length_data s g.body g.within in
    let b : 12 + (g.body - 12) ≡ g.body = omega (arith, g.enough) in
    let l : length p.padding ≡ length s - g.body = ap length (sym g.padding) ∙ length-drop g.body s in
    record {
      name = ap name_of c;
      payload = rw (n, b) (ap data_of c);
      padding = rw (n, b, l) (padding_is APP s p g);
    }

-- where the body ends ahead of the data there are none
pub data_none : (b : ℕ) (s : List ℕ) → b < 12 → take 0 s ≡ take (b - 12) (drop 12 s)
data_none b s h = let z : b - 12 ≡ 0 = omega arith in rw z

pub ruleset apps = (rules, app_none, app_header, app_within, app_read, app_header_refuses, app_why, data_none)
