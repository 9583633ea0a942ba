-- Datagrams and their walk: what C gets, from what the readers answer.
use Rattle.std.specs.Prelude.{Option, None, Some}
use Rattle.rfc3550.proofs.Prelude.{◌≡◌, refl, sym, ap, ◌∙◌, List, ℕ, ◌+◌, ◌-◌, arith, take, drop, rules}
use Rattle.rfc3550.specs.Answer.{Refusal, Answer, ok, refused, map_ok}
use Rattle.rfc3550.specs.Packet.{Packet as Read}
use Rattle.rfc3550.specs.Read.{Kind, SR, RR, SDES, BYE, APP, UNKNOWN, kind_of, type_in, low_in, read_as}
use Rattle.rfc3550.specs.Walk.{step}
use Rattle.rfc3550.proofs.Packets.{read_as_kind}
use Rattle.utils.specs.Error.{value_in}
use Rattle.utils.proofs.Values.{none_viewed, none_below, refused_viewed}
use Rattle.report.specs.Report.{sender_view, receiver_view}
use Rattle.report.specs.declared.sender.SenderReport.{SenderReport}
use Rattle.report.specs.declared.receiver.ReceiverReport.{ReceiverReport}
use Rattle.sdes.specs.Sdes.{sdes_view}
use Rattle.sdes.specs.declared.sdes.Sdes.{Sdes}
use Rattle.bye.specs.Bye.{bye_view}
use Rattle.bye.specs.declared.Bye.{Bye}
use Rattle.app.specs.App.{app_view}
use Rattle.app.specs.declared.App.{App}
use Rattle.compound.specs.Unknown.{unknown_view}
use Rattle.compound.specs.declared.unknown.Unknown.{Unknown}
use Rattle.compound.specs.Kind.{kind_in}
use Rattle.compound.specs.declared.kind.Kind.{Kind as Kinds}
use Rattle.compound.specs.declared.kind.Kind.TheVariants as kind
use Rattle.compound.specs.Packet.{view_as, packet_view}
use Rattle.compound.specs.Compound.{frame_at, walk_at, step_view}
use Rattle.compound.specs.declared.packet.Packet.{Packet}
use Rattle.compound.proofs.PacketKinds.{kind_found}
use Rattle.compound.proofs.Compounds.{step_none, step_within, step_fits, stepped}
use Rattle.rtcp.specs.Compound.{sr_numbers, rr_numbers, sdes_numbers, bye_numbers, app_numbers, unknown_numbers, numbers_of, packet_numbers, step_result}
use Rattle.rtcp.specs.declared.read_compound.PacketNumbers.{PacketNumbers}
use Rattle.rtcp.specs.declared.read_compound.RtcpStep.{RtcpStep}

abbrev here : List ℕ → Option PacketNumbers
here s = value_in (map_ok packet_numbers (read_as (kind_of (type_in s) (low_in s)) s))

-- from what was read of the packet, of which a match found the kind
module _ {A : Type 0} (view : Read → A) (f : A → PacketNumbers) (d : Kinds) (same : (p : Read) → numbers_of (view_as (kind_in d) p) ≡ f (view p))
    (s : List ℕ) (c : Kinds) (h : kind_in c ≡ kind_of (type_in s) (low_in s)) (e : c ≡ d) where
  found : (o : Option PacketNumbers) → o ≡ value_in (map_ok packet_numbers (read_as (kind_in d) s)) → o ≡ here s
  found o q = q ∙ ap (λ (k : Kind). value_in (map_ok packet_numbers (read_as k s))) (kind_found s c d h e)

  none : None ≡ value_in (map_ok view (read_as (kind_in d) s)) → None ≡ here s
  none q = found None (none_viewed packet_numbers (read_as (kind_in d) s) (none_below view (read_as (kind_in d) s) q))

  some : (a : A) (x : PacketNumbers) → Some a ≡ value_in (map_ok view (read_as (kind_in d) s)) → x ≡ f a → Some x ≡ here s
  unfolding map_ok
  some a x q g = found (Some x) (go (read_as (kind_in d) s) refl)
    where
      go : (m : Answer Read) → read_as (kind_in d) s ≡ m → Some x ≡ value_in (map_ok packet_numbers m)
      go (ok p) w =
          let v : a ≡ view p = let y = q ∙ ap (λ (m : Answer Read). value_in (map_ok view m)) w in cc in
          let n : x ≡ packet_numbers p = g ∙ ap f v ∙ sym (same p) ∙ ap (λ (k : Kind). numbers_of (view_as k p)) (sym (read_as_kind (kind_in d) s w)) in
          ap Some n
      go (refused r) w = let y = q ∙ ap (λ (m : Answer Read). value_in (map_ok view m)) w in cc

module _ (s : List ℕ) (c : Kinds) (h : kind_in c ≡ kind_of (type_in s) (low_in s)) where
  pub sr_none : c ≡ kind.Sr → None ≡ value_in (map_ok sender_view (read_as SR s)) → None ≡ here s
  sr_none = none sender_view sr_numbers kind.Sr (λ p. refl) s c h

  pub sr_some : c ≡ kind.Sr → (a : SenderReport) (x : PacketNumbers) → Some a ≡ value_in (map_ok sender_view (read_as SR s)) → x ≡ sr_numbers a → Some x ≡ here s
  sr_some = some sender_view sr_numbers kind.Sr (λ p. refl) s c h

  pub rr_none : c ≡ kind.Rr → None ≡ value_in (map_ok receiver_view (read_as RR s)) → None ≡ here s
  rr_none = none receiver_view rr_numbers kind.Rr (λ p. refl) s c h

  pub rr_some : c ≡ kind.Rr → (a : ReceiverReport) (x : PacketNumbers) → Some a ≡ value_in (map_ok receiver_view (read_as RR s)) → x ≡ rr_numbers a → Some x ≡ here s
  rr_some = some receiver_view rr_numbers kind.Rr (λ p. refl) s c h

  pub sdes_none : c ≡ kind.Sdes → None ≡ value_in (map_ok sdes_view (read_as SDES s)) → None ≡ here s
  sdes_none = none sdes_view sdes_numbers kind.Sdes (λ p. refl) s c h

  pub sdes_some : c ≡ kind.Sdes → (a : Sdes) (x : PacketNumbers) → Some a ≡ value_in (map_ok sdes_view (read_as SDES s)) → x ≡ sdes_numbers a → Some x ≡ here s
  sdes_some = some sdes_view sdes_numbers kind.Sdes (λ p. refl) s c h

  pub bye_none : c ≡ kind.Bye → None ≡ value_in (map_ok bye_view (read_as BYE s)) → None ≡ here s
  bye_none = none bye_view bye_numbers kind.Bye (λ p. refl) s c h

  pub bye_some : c ≡ kind.Bye → (a : Bye) (x : PacketNumbers) → Some a ≡ value_in (map_ok bye_view (read_as BYE s)) → x ≡ bye_numbers a → Some x ≡ here s
  bye_some = some bye_view bye_numbers kind.Bye (λ p. refl) s c h

  pub app_none : c ≡ kind.App → None ≡ value_in (map_ok app_view (read_as APP s)) → None ≡ here s
  app_none = none app_view app_numbers kind.App (λ p. refl) s c h

  pub app_some : c ≡ kind.App → (a : App) (x : PacketNumbers) → Some a ≡ value_in (map_ok app_view (read_as APP s)) → x ≡ app_numbers a → Some x ≡ here s
  app_some = some app_view app_numbers kind.App (λ p. refl) s c h

  pub unknown_none : c ≡ kind.Unknown → None ≡ value_in (map_ok unknown_view (read_as UNKNOWN s)) → None ≡ here s
  unknown_none = none unknown_view unknown_numbers kind.Unknown (λ p. refl) s c h

  pub unknown_some : c ≡ kind.Unknown → (a : Unknown) (x : PacketNumbers) → Some a ≡ value_in (map_ok unknown_view (read_as UNKNOWN s)) → x ≡ unknown_numbers a → Some x ≡ here s
  unknown_some = some unknown_view unknown_numbers kind.Unknown (λ p. refl) s c h

pub ruleset kinds = (rules, sr_none, sr_some, rr_none, rr_some, sdes_none, sdes_some, bye_none, bye_some, app_none, app_some, unknown_none, unknown_some)

-- ---- a step

-- the answer of a step that gives a packet, from the packet's numbers
abbrev step_of : ℕ → ℕ → PacketNumbers → RtcpStep
step_of at n x =
    record {
      number = 0;
      first = 0;
      second = 0;
      kind = x.kind;
      packet_type = x.packet_type;
      count = x.count;
      offset = at;
      len = n;
      body = x.body;
      padding_len = x.padding_len;
      ssrc = x.ssrc;
      ntp_timestamp = x.ntp_timestamp;
      rtp_timestamp = x.rtp_timestamp;
      packet_count = x.packet_count;
      octet_count = x.octet_count;
      extension = x.extension;
      has_cname = x.has_cname;
      has_reason = x.has_reason;
      reason = x.reason;
      reason_len = x.reason_len;
      at = at + n;
    }

step_of_lem : (at n : ℕ) (x : PacketNumbers) (q : Packet) → x ≡ numbers_of q → step_of at n x ≡ step_result at (ok (q, walk_at (at + n)))
step_of_lem at n x q v = let m : at + n - at ≡ n = omega arith in rw (v, m)

-- none is left, or the frame refuses
pub walk_none : (s : List ℕ) (at : ℕ) (r : RtcpStep) (j k : Refusal) → r ≡ step_result at (refused j) → j ≡ k → refused k ≡ frame_at s at → r ≡ step_result at (map_ok step_view (step s at))
walk_none s at r j k q i w = q ∙ ap (λ (x : Refusal). step_result at (refused x)) i ∙ ap (step_result at) (step_none s at k w)

module _ (s : List ℕ) (at n : ℕ) (h : Some n ≡ value_in (frame_at s at)) where
  abbrev packet : List ℕ
  packet = take (at + n - at) (drop at s)

  abbrev kind_there : Kind
  kind_there = kind_of (type_in packet) (low_in packet)

  pub walk_below : None ≡ value_in (map_ok packet_numbers (read_as kind_there packet)) → value_in (read_as kind_there packet) ≡ None
  walk_below = none_below packet_numbers (read_as kind_there packet)

  pub walk_refused : (r : RtcpStep) (j k : Refusal) → r ≡ step_result at (refused j) → j ≡ k → refused k ≡ read_as kind_there packet → r ≡ step_result at (map_ok step_view (step s at))
  unfolding map_ok
  walk_refused r j k q i w =
      q ∙ ap (λ (x : Refusal). step_result at (refused x)) i ∙ ap (step_result at) (stepped s at n h (refused k) (refused_viewed packet_view (read_as kind_there packet) k w))

  pub packet_stepped : (x : PacketNumbers) → Some x ≡ here packet → step_of at n x ≡ step_result at (map_ok step_view (step s at))
  unfolding map_ok
  packet_stepped x e = go (read_as kind_there packet) refl
    where
      go : (m : Answer Read) → read_as kind_there packet ≡ m → step_of at n x ≡ step_result at (map_ok step_view (step s at))
      go (ok p) w =
          let v : x ≡ packet_numbers p = let y = e ∙ ap (λ (m : Answer Read). value_in (map_ok packet_numbers m)) w in cc in
          step_of_lem at n x (packet_view p) v ∙ ap (step_result at) (stepped s at n h (ok (packet_view p)) (sym (ap (map_ok packet_view) w)))
      go (refused r) w = let y = e ∙ ap (λ (m : Answer Read). value_in (map_ok packet_numbers m)) w in cc

pub ruleset datagrams = (rules, step_within, step_fits, walk_none, walk_below, walk_refused, packet_stepped)
