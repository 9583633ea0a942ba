-- A packet of any kind, from the answer of its kind's reader.
use Rattle.std.specs.Prelude.{Option, None, Some}
use Rattle.rfc3550.proofs.Prelude.{rules, ◌≡◌, refl, sym, ap, ◌∙◌, arith, eqb, Bool, true, false, List, ℕ, ◌<◌, ne_eqb}
use Rattle.rfc3550.specs.Answer.{Refusal, Answer, ok, refused, map_ok, pick}
use Rattle.rfc3550.specs.Packet.{Content, report, sdes, bye, app, unknown, receiver, sender, Packet as Read, has_cname}
use Rattle.rfc3550.specs.Read.{Kind, SR, RR, SDES, BYE, APP, UNKNOWN, kind_for, kind_of, type_in, low_in, read_as}
use Rattle.rfc3550.proofs.Packets.{read_as_kind}
use Rattle.utils.specs.Error.{value_in}
use Rattle.utils.proofs.Values.{none_viewed, none_below}
use Rattle.report.specs.Report.{sender_view, receiver_view, report_body}
use Rattle.sdes.specs.Sdes.{sdes_view}
use Rattle.sdes.specs.declared.sdes.Sdes.{Sdes}
use Rattle.bye.specs.Bye.{bye_view}
use Rattle.bye.specs.declared.Bye.{Bye}
use Rattle.app.specs.App.{app_view}
use Rattle.app.specs.declared.App.{App}
use Rattle.compound.specs.Unknown.{unknown_view}
use Rattle.compound.specs.declared.unknown.Unknown.{Unknown}
use Rattle.compound.specs.Kind.{kind_in}
use Rattle.compound.specs.declared.kind.Kind.{Kind as Kinds}
use Rattle.compound.specs.declared.kind.Kind.TheVariants as kind
use Rattle.compound.proofs.PacketKinds.{kind_found}
use Rattle.compound.specs.Packet.{sr_packet, rr_packet, sdes_packet, bye_packet, app_packet, unknown_packet, view_as, packet_view}
use Rattle.compound.specs.declared.packet.Packet.{Packet}

-- ---- an answer whose constructor is known

pub shown : {R A : Type 0} (answer : R → Answer A) (f : A → Packet) (o : Answer Packet) (p q : R) → p ≡ q → o ≡ map_ok f (answer q) → o ≡ map_ok f (answer p)
shown answer f o p q e h = h ∙ ap (λ (p : _). map_ok f (answer p)) (sym e)

-- ---- over the kind

module _ (k : Kind) {A : Type 0} (view : Read → A) (f : A → Packet) (same : (p : Read) → view_as k p ≡ f (view p)) where
  viewed : (s : List ℕ) (r : Answer Read) → read_as k s ≡ r → map_ok f (map_ok view r) ≡ map_ok packet_view r
  unfolding map_ok
  viewed s (ok p) h = ap ok (sym (same p) ∙ ap (λ (k : Kind). view_as k p) (sym (read_as_kind k s h)))
  viewed s (refused x) h = refl

  dispatched : (s : List ℕ) (o : Answer Packet) (a : Answer A) → kind_of (type_in s) (low_in s) ≡ k → o ≡ map_ok f a → a ≡ map_ok view (read_as k s)
      → o ≡ map_ok packet_view (read_as (kind_of (type_in s) (low_in s)) s)
  dispatched s o a e p q = p ∙ ap (map_ok f) q ∙ viewed s (read_as k s) refl ∙ ap (λ (k : Kind). map_ok packet_view (read_as k s)) (sym e)

abbrev whole : List ℕ → Answer Packet
whole s = map_ok packet_view (read_as (kind_of (type_in s) (low_in s)) s)

module _ (s : List ℕ) (c : Kinds) (h : kind_in c ≡ kind_of (type_in s) (low_in s)) (o : Answer Packet) where
  pub sr_read : (a : Answer _) → c ≡ kind.Sr → o ≡ map_ok sr_packet a → a ≡ map_ok sender_view (read_as SR s) → o ≡ whole s
  sr_read a e = dispatched SR sender_view sr_packet (λ p. refl) s o a (sym (kind_found s c kind.Sr h e))

  pub rr_read : (a : Answer _) → c ≡ kind.Rr → o ≡ map_ok rr_packet a → a ≡ map_ok receiver_view (read_as RR s) → o ≡ whole s
  rr_read a e = dispatched RR receiver_view rr_packet (λ p. refl) s o a (sym (kind_found s c kind.Rr h e))

  pub sdes_read : (a : Answer _) → c ≡ kind.Sdes → o ≡ map_ok sdes_packet a → a ≡ map_ok sdes_view (read_as SDES s) → o ≡ whole s
  sdes_read a e = dispatched SDES sdes_view sdes_packet (λ p. refl) s o a (sym (kind_found s c kind.Sdes h e))

  pub bye_read : (a : Answer _) → c ≡ kind.Bye → o ≡ map_ok bye_packet a → a ≡ map_ok bye_view (read_as BYE s) → o ≡ whole s
  bye_read a e = dispatched BYE bye_view bye_packet (λ p. refl) s o a (sym (kind_found s c kind.Bye h e))

  pub app_read : (a : Answer _) → c ≡ kind.App → o ≡ map_ok app_packet a → a ≡ map_ok app_view (read_as APP s) → o ≡ whole s
  app_read a e = dispatched APP app_view app_packet (λ p. refl) s o a (sym (kind_found s c kind.App h e))

  pub unknown_read : (a : Answer _) → c ≡ kind.Unknown → o ≡ map_ok unknown_packet a → a ≡ map_ok unknown_view (read_as UNKNOWN s) → o ≡ whole s
  unknown_read a e = dispatched UNKNOWN unknown_view unknown_packet (λ p. refl) s o a (sym (kind_found s c kind.Unknown h e))

-- ---- of a kind that a match found

module _ (s : List ℕ) (c d : Kinds) (h : kind_in c ≡ kind_of (type_in s) (low_in s)) (e : c ≡ d) where
  pub none_found : value_in (read_as (kind_of (type_in s) (low_in s)) s) ≡ None → value_in (read_as (kind_in d) s) ≡ None
  none_found z = rw (kind_found s c d h e) z

  pub why_found : (r : Refusal) → refused r ≡ read_as (kind_in d) s → refused r ≡ read_as (kind_of (type_in s) (low_in s)) s
  why_found r q = q ∙ ap (λ (k : Kind). read_as k s) (kind_found s c d h e)

pub ruleset packets = (rules, none_found, why_found, sr_read, rr_read, sdes_read, bye_read, app_read, unknown_read)

-- ---- what the check of a datagram asks of a packet

abbrev is_sdes : Kind → Bool
is_sdes SR = false
is_sdes RR = false
is_sdes SDES = true
is_sdes BYE = false
is_sdes APP = false
is_sdes UNKNOWN = false

-- only an SDES has a CNAME
unnamed : (p : Read) → is_sdes (kind_for p.content) ≡ false → has_cname p ≡ false
unnamed p = go p.content
  where
    go : (c : Content) → is_sdes (kind_for c) ≡ false → has_cname (record { content = c; padding = p.padding }) ≡ false
    go (report (sender ssrc ntp rtp n o) bs e) h = refl
    go (report (receiver ssrc) bs e) h = refl
    go (sdes cs) h = absurd (omega (arith, ap (λ (b : Bool). pick {A = ℕ} b 1 0) h))
    go (bye ss l) h = refl
    go (app subtype ssrc name d) h = refl
    go (unknown t low b) h = refl

abbrev verdict : List ℕ → Kind → Option Bool
verdict s k = value_in (map_ok has_cname (read_as k s))

-- from what was read of the packet, of which a match found the kind
module _ {A : Type 0} (view : Read → A) (d : Kinds) (s : List ℕ) (c : Kinds) (h : kind_in c ≡ kind_of (type_in s) (low_in s)) (e : c ≡ d) where
  here : (o : Option Bool) → o ≡ verdict s (kind_in d) → o ≡ verdict s (kind_of (type_in s) (low_in s))
  here o q = q ∙ ap (verdict s) (kind_found s c d h e)

  none : None ≡ value_in (map_ok view (read_as (kind_in d) s)) → None ≡ verdict s (kind_of (type_in s) (low_in s))
  none q = here None (none_viewed has_cname (read_as (kind_in d) s) (none_below view (read_as (kind_in d) s) q))

  some : (named : A → Bool) → ((p : Read) → read_as (kind_in d) s ≡ ok p → named (view p) ≡ has_cname p)
      → (a : A) → Some a ≡ value_in (map_ok view (read_as (kind_in d) s)) → Some (named a) ≡ verdict s (kind_of (type_in s) (low_in s))
  unfolding map_ok
  some named f a q = here (Some (named a)) (go (read_as (kind_in d) s) refl)
    where
      go : (m : Answer Read) → read_as (kind_in d) s ≡ m → Some (named a) ≡ value_in (map_ok has_cname m)
      go (ok p) w = let x : a ≡ view p = let y = q ∙ ap (λ (m : Answer Read). value_in (map_ok view m)) w in cc in rw (x, f p w)
      go (refused r) w = let y = q ∙ ap (λ (m : Answer Read). value_in (map_ok view m)) w in cc

  -- a kind without a CNAME
  alone : is_sdes (kind_in d) ≡ false → (a : A) → Some a ≡ value_in (map_ok view (read_as (kind_in d) s)) → Some false ≡ verdict s (kind_of (type_in s) (low_in s))
  alone i = some (λ a. false) (λ p w. sym (unnamed p (ap is_sdes (read_as_kind (kind_in d) s w) ∙ i)))

module _ (s : List ℕ) (c : Kinds) (h : kind_in c ≡ kind_of (type_in s) (low_in s)) where
  pub sr_none : c ≡ kind.Sr → None ≡ value_in (map_ok report_body (read_as SR s)) → None ≡ verdict s (kind_of (type_in s) (low_in s))
  sr_none = none report_body kind.Sr s c h

  pub sr_some : c ≡ kind.Sr → (a : ℕ) → Some a ≡ value_in (map_ok report_body (read_as SR s)) → Some false ≡ verdict s (kind_of (type_in s) (low_in s))
  sr_some e = alone report_body kind.Sr s c h e refl

  pub rr_none : c ≡ kind.Rr → None ≡ value_in (map_ok report_body (read_as RR s)) → None ≡ verdict s (kind_of (type_in s) (low_in s))
  rr_none = none report_body kind.Rr s c h

  pub rr_some : c ≡ kind.Rr → (a : ℕ) → Some a ≡ value_in (map_ok report_body (read_as RR s)) → Some false ≡ verdict s (kind_of (type_in s) (low_in s))
  rr_some e = alone report_body kind.Rr s c h e refl

  pub sdes_none : c ≡ kind.Sdes → None ≡ value_in (map_ok sdes_view (read_as SDES s)) → None ≡ verdict s (kind_of (type_in s) (low_in s))
  sdes_none = none sdes_view kind.Sdes s c h

  pub sdes_some : c ≡ kind.Sdes → (a : Sdes) → Some a ≡ value_in (map_ok sdes_view (read_as SDES s)) → Some a.has_cname ≡ verdict s (kind_of (type_in s) (low_in s))
  sdes_some e = some sdes_view kind.Sdes s c h e (λ a. a.has_cname) (λ p w. refl)

  pub bye_none : c ≡ kind.Bye → None ≡ value_in (map_ok bye_view (read_as BYE s)) → None ≡ verdict s (kind_of (type_in s) (low_in s))
  bye_none = none bye_view kind.Bye s c h

  pub bye_some : c ≡ kind.Bye → (a : Bye) → Some a ≡ value_in (map_ok bye_view (read_as BYE s)) → Some false ≡ verdict s (kind_of (type_in s) (low_in s))
  bye_some e = alone bye_view kind.Bye s c h e refl

  pub app_none : c ≡ kind.App → None ≡ value_in (map_ok app_view (read_as APP s)) → None ≡ verdict s (kind_of (type_in s) (low_in s))
  app_none = none app_view kind.App s c h

  pub app_some : c ≡ kind.App → (a : App) → Some a ≡ value_in (map_ok app_view (read_as APP s)) → Some false ≡ verdict s (kind_of (type_in s) (low_in s))
  app_some e = alone app_view kind.App s c h e refl

  pub unknown_none : c ≡ kind.Unknown → None ≡ value_in (map_ok unknown_view (read_as UNKNOWN s)) → None ≡ verdict s (kind_of (type_in s) (low_in s))
  unknown_none = none unknown_view kind.Unknown s c h

  pub unknown_some : c ≡ kind.Unknown → (a : Unknown) → Some a ≡ value_in (map_ok unknown_view (read_as UNKNOWN s)) → Some false ≡ verdict s (kind_of (type_in s) (low_in s))
  unknown_some e = alone unknown_view kind.Unknown s c h e refl

pub ruleset verdicts = (rules, sr_none, sr_some, rr_none, rr_some, sdes_none, sdes_some, bye_none, bye_some, app_none, app_some, unknown_none, unknown_some)
