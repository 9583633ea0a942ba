-- Reading a report, over the kind: from what a reader has tested, what an accepted one tells, and its parts.
use Rattle.std.specs.Prelude.{None, Some, Result, eqb}
use Rattle.std.specs.Result.{IsErrAnd}
use Rattle.std.proofs.lemmas.Result.{err_from_is_err_and}
use Rattle.rfc3550.proofs.Prelude.{rules, ◌≡◌, refl, ap, ◌∙◌, sym, subst, List, [], ◌∷◌, ⊎_elim, ℕ, zero, suc, ◌+◌, ◌-◌, ◌*◌, ◌<◌, ◌≤◌, arith, le-leb, lt-leb, length, take, drop, length-drop, drop-drop, length-take-le, take_all, get_or}
use Rattle.rfc3550.specs.Answer.{Refusal, refusal, Answer, ok, refused, refuse, need, ◌>>◌, ◌>>=◌, map_ok}
use Rattle.rfc3550.specs.Bytes.{val, get, sum}
use Rattle.rfc3550.specs.Loss.{Loss}
use Rattle.rfc3550.specs.Packet.{Block, Reporter, Content, report, Packet, reporter_fields, block_widths, sender_widths}
use Rattle.rfc3550.specs.Read.{Kind, SR, RR, least, low_in, block_from, read_blocks, sender_from, read_report, type_in, check_header, check_packet, read_as, blocks_of, nth, read_block_at}
use Rattle.rfc3550.proofs.Answers.{refused≢ok, ok_injective, map_ok_inv}
use Rattle.utils.specs.Error.{parse_refusal, value_in}
use Rattle.utils.specs.List.{listed_of}
use Rattle.utils.specs.declared.error.RtcpParseError.{RtcpParseError}
use Rattle.utils.specs.declared.list.ListError.{ListError}
use Rattle.utils.specs.declared.list.ListError.TheVariants as list
use Rattle.utils.proofs.Errors.{parse_handed}
use Rattle.utils.proofs.Reading.{packet_of, content_in, got, got_is, none_viewed_at_header, why_at_header, body_accepted, body_content, map_ok_refused}
use Rattle.utils.proofs.Headers.{Accepted}
use Rattle.utils.proofs.Values.{value_is, none_viewed, none_below, values}
use Rattle.utils.proofs.Parts.{drop_take, length_drop_take, get_take, nth_past, nth_read_blocks, length_read_blocks, split}
use Rattle.report.specs.Block.{block_view, lay_blocks}
use Rattle.report.specs.declared.report_block.ReportBlock.{ReportBlock}
use Rattle.report.specs.Reporter.{ReporterKind, receiver_maker, sender_maker, places_of, ReportLaws}
use Rattle.report.specs.declared.report.Places.{Places}
use Rattle.report.specs.Report.{fields_of, report_blocks, report_body, extension_of, extension_at, receiver_view, sender_view}

-- ---- the content by places in the packet

abbrev pub end : Kind → List ℕ → ℕ
end k s = least k + 24 * low_in s

abbrev pub blocks_at : Kind → List ℕ → ℕ → List Block
blocks_at k s b = read_blocks (low_in s) (drop (least k) (take b s))

abbrev pub content_at : Kind → List ℕ → (List ℕ → Reporter) → List ℕ → ℕ → Content
content_at k ws who s b = report (who (get ws (drop 4 s))) (blocks_at k s b) (take (b - end k s) (drop (end k s) s))

module _ {k : Kind} {ws : List ℕ} {who : List ℕ → Reporter} (m : ReporterKind k ws who) (s : List ℕ) (b : ℕ) (h : least k ≤ b) (l : b ≤ length s) where
  total : 4 ≤ b → 4 + length (drop 4 (take b s)) ≡ b
  total q = rw (length_drop_take 4 b s l) (omega arith)

  pub short : b < end k s → content_in k s b ≡ refuse 2 (end k s) b
  unfolding read_report need ◌>>◌
  short q =
      let w = m.wide in
      let e : 4 + sum ws + 24 * low_in s ≡ end k s = omega arith in
      rw (m.reads, e, total (omega arith), lt-leb (end k s) b q)

  pub long : end k s ≤ b → content_in k s b ≡ ok (content_at k ws who s b)
  unfolding read_report need ◌>>◌
  long q =
      let w = m.wide in
      let e : 4 + sum ws + 24 * low_in s ≡ end k s = omega arith in
      let f : 4 + (sum ws + 24 * low_in s) ≡ end k s = omega arith in
      let g : 4 + sum ws ≡ least k = omega arith in
      rw (
        m.reads,
        e,
        total (omega arith),
        le-leb (end k s) b q,
        drop-drop (sum ws) 4 (take b s),
        drop-drop (sum ws + 24 * low_in s) 4 (take b s),
        f,
        g,
        get_take ws 4 b s (omega arith),
        drop_take (end k s) b s,
      )

  length_rest : end k s ≤ b → end k s + length (take (b - end k s) (drop (end k s) s)) ≡ b
  length_rest q = rw (length-take-le (b - end k s) (drop (end k s) s) (rw length-drop (omega arith))) (omega arith)

  pub count_is : length (blocks_of (content_at k ws who s b)) ≡ low_in s
  count_is = length_read_blocks (low_in s) (drop (least k) (take b s))

  pub at_is : extension_at (content_at k ws who s b) ≡ end k s
  at_is = rw (m.kind (get ws (drop 4 s)) (blocks_at k s b) (take (b - end k s) (drop (end k s) s)), count_is)

  pub body_is : end k s ≤ b → extension_at (content_at k ws who s b) + length (extension_of (content_at k ws who s b)) ≡ b
  body_is q = rw at_is (length_rest q)

-- ---- by the body of the header

module _ {k : Kind} {min type : ℕ} {R : Type 0} {view : Packet → R} {places : R → Places} (l : ReportLaws k min type view places) (s : List ℕ) (x t : ℕ) (e : x ≡ min) (f : t ≡ type) where
  same : check_header x (eqb (type_in s) t) (type_in s, t) s ≡ check_packet k s
  same = rw (e, f) (l.checked s)

  pub none_header : None ≡ value_in (check_header x (eqb (type_in s) t) (type_in s, t) s) → None ≡ value_in (map_ok report_body (read_as k s))
  none_header z = none_viewed_at_header k s report_body (z ∙ ap value_in same)

  pub why_header : (r : Refusal) → refused r ≡ check_header x (eqb (type_in s) t) (type_in s, t) s → refused r ≡ read_as k s
  why_header r q = why_at_header k s r (q ∙ same)

  -- no body, and so the header refuses, whichever numbers name the kind's
  pub header_refuses : None ≡ value_in (check_header x (eqb (type_in s) t) (type_in s, t) s) → (y u : ℕ) → y ≡ min → u ≡ type → value_in (check_header y (eqb (type_in s) u) (type_in s, u) s) ≡ None
  header_refuses z y u d c = sym (z ∙ ap value_in (same ∙ sym (rw (d, c) (l.checked s))))

  module _ (b : ℕ) (h : Some b ≡ value_in (check_header x (eqb (type_in s) t) (type_in s, t) s)) (n : ℕ) (c : n ≡ low_in s) (y : ℕ) (d : y ≡ min) where
    checked : Some b ≡ value_in (check_packet k s)
    checked = h ∙ ap value_in same

    body : Accepted (least k) s b
    body = body_accepted k s b checked

    least_is : y ≡ least k
    least_is = d ∙ l.least_len

    cut : b < y + 24 * n → read_as k s ≡ refuse 2 (y + 24 * n) b
    unfolding map_ok
    cut q = rw (least_is, c) (body_content k s b checked ∙ rw (short l.maker s b body.enough body.within (rw (← c, ← least_is) q)))

    whole : y + 24 * n ≤ b → read_as k s ≡ ok (packet_of s b (content_at k l.widths l.who s b))
    unfolding map_ok
    whole q = body_content k s b checked ∙ rw (long l.maker s b body.enough body.within (rw (← c, ← least_is) q))

    pub none_short : b < y + 24 * n → None ≡ value_in (map_ok report_body (read_as k s))
    unfolding map_ok
    none_short q = rw (cut q)

    pub body_long : y + 24 * n ≤ b → Some b ≡ value_in (map_ok report_body (read_as k s))
    unfolding map_ok
    body_long q = sym (ap (λ (m : Answer Packet). value_in (map_ok report_body m)) (whole q) ∙ ap Some (body_is l.maker s b body.enough body.within (rw (← c, ← least_is) q)))

    -- what is left are blocks past the body
    pub why_short : value_in (read_as k s) ≡ None → refused (refusal 2 (y + 24 * n) b) ≡ read_as k s
    why_short z =
        ⊎_elim
        (λ q. sym (cut q))
        (λ q. let v = sym (ap value_in (whole q)) ∙ z in cc)
        (split b (y + 24 * n))

pub ruleset headers = (rules, none_header, why_header, header_refuses, none_short, why_short, body_long)

-- ---- what the body of the packet tells

pub record Whole (k : Kind) (ws : List ℕ) (who : List ℕ → Reporter) (s : List ℕ) (b : ℕ) : Type 0 where
  pub enough : least k ≤ b
  pub within : b ≤ length s
  pub room : end k s ≤ b
  pub packet : read_as k s ≡ ok (packet_of s b (content_at k ws who s b))

pub whole_is : {k : Kind} {ws : List ℕ} {who : List ℕ → Reporter} (m : ReporterKind k ws who) (s : List ℕ) (p : Packet) → read_as k s ≡ ok p → Whole k ws who s (report_body p)
whole_is {k} {ws} {who} m s p e =
    let g = got k s p e in
    ⊎_elim
    (λ q. absurd (refused≢ok (sym (short m s g.body g.enough g.within q) ∙ g.content)))
    (λ q.
    let w = got_is k s p g (content_at k ws who s g.body) (long m s g.body g.enough g.within q) in
    let r : g.body ≡ report_body p = sym (body_is m s g.body g.enough g.within q) ∙ ap report_body w in
    subst (Whole k ws who s) r (record { enough = g.enough; within = g.within; room = q; packet = e ∙ ap ok (sym w) }))
    (split g.body (end k s))

-- blocks read from a part that holds them
read_blocks_take : (n b : ℕ) (s : List ℕ) → 24 * n ≤ b → read_blocks n (take b s) ≡ read_blocks n s
unfolding read_blocks sum
read_blocks_take zero b s h = refl
read_blocks_take (suc n) b s h =
    rw (get_take block_widths 0 b s (omega arith), drop_take 24 b s, read_blocks_take n (b - 24) (drop 24 s) (omega arith))

-- none came of the body, and so none of any view
pub report_none : (k : Kind) (s : List ℕ) {B : Type 0} (view : Packet → B) → None ≡ value_in (map_ok report_body (read_as k s)) → None ≡ value_in (map_ok view (read_as k s))
report_none k s view z = none_viewed view (read_as k s) (none_below report_body (read_as k s) z)

module _ {k : Kind} {ws : List ℕ} {who : List ℕ → Reporter} (m : ReporterKind k ws who) (s : List ℕ) (b : ℕ) (h : Some b ≡ value_in (map_ok report_body (read_as k s))) where
  is_whole : Whole k ws who s b
  is_whole = let v = map_ok_inv report_body (read_as k s) (sym (value_is (map_ok report_body (read_as k s)) b h)) in subst (Whole k ws who s) v.2 (whole_is m s v.0 v.1)

  pub report_within : b ≤ length s
  report_within = is_whole.within

  module _ (n : ℕ) (c : n ≡ low_in s) where
    -- what the numbers say is where the packet's parts lie
    pub report_placed : (x : ℕ) → x ≡ least k → map_ok places_of (read_as k s) ≡ ok (record { n_reports = n; extension = x + 24 * n; body = b })
    unfolding map_ok
    report_placed x e =
        let a = is_whole in
        rw (a.packet, body_is m s b a.enough a.within a.room, at_is m s b a.enough a.within, count_is m s b a.enough a.within, c, e)

    pub blocks_within : (x : ℕ) → x ≡ least k → x + n * 24 ≤ length s
    blocks_within x e = let a = is_whole in omega arith

    pub lists_all : (f : List ℕ) (l : List Loss) (w : List ℕ) (x : Answer ℕ × List ℕ × List Loss × List ℕ) → x ≡ lay_blocks (ok (read_blocks n (drop (least k) s))) f l w → x ≡ lay_blocks (map_ok report_blocks (read_as k s)) f l w
    unfolding map_ok
    lists_all f l w x q =
        let a = is_whole in
        let e : read_blocks n (drop (least k) s) ≡ blocks_at k s b =
        sym (rw (drop_take (least k) b s, read_blocks_take (low_in s) (b - least k) (drop (least k) s) (omega arith)) (ap (λ (n : ℕ). read_blocks n (drop (least k) s)) (sym c))) in
        q ∙ ap (λ (bs : List Block). lay_blocks (ok bs) f l w) e ∙ sym (ap (λ (m : Answer Packet). lay_blocks (map_ok report_blocks m) f l w) a.packet)

    module _ (i : ℕ) where
      pub index_past : n ≤ i → refuse 25 0 0 ≡ map_ok block_view (read_block_at k s i)
      unfolding read_block_at ◌>>=◌ map_ok
      index_past l = rw (is_whole.packet, nth_past i (blocks_at k s b) (rw (length_read_blocks (low_in s) (drop (least k) (take b s)), ← c) l))

      module _ (l : i < n) where
        pub index_there : (x : ReportBlock) → x ≡ block_view (block_from (get block_widths (drop (least k + 24 * i) s))) → ok x ≡ map_ok block_view (read_block_at k s i)
        unfolding read_block_at ◌>>=◌ map_ok sum
        index_there x q =
            let a = is_whole in
            let e : nth i (blocks_at k s b) ≡ ok (block_from (get block_widths (drop (least k + 24 * i) s))) =
            nth_read_blocks (low_in s) i (drop (least k) (take b s)) (omega arith)
            ∙ rw (drop-drop (24 * i) (least k) (take b s), get_take block_widths (least k + 24 * i) b s (omega arith)) in
            rw (a.packet, e, q)

        pub index_within : (x : ℕ) → x ≡ least k + 24 * i → x + 24 ≤ length s
        index_within x e = let a = is_whole in omega arith

-- ---- where the parts lie, of a packet that was accepted

module _ {k : Kind} {ws : List ℕ} {who : List ℕ → Reporter} (m : ReporterKind k ws who) (s : List ℕ) (at : Places) (h : map_ok places_of (read_as k s) ≡ ok at) where
  placed : (p : Packet) × (read_as k s ≡ ok p) × (places_of p ≡ at)
  placed = map_ok_inv places_of (read_as k s) h

  placed_body : Some at.body ≡ value_in (map_ok report_body (read_as k s))
  unfolding map_ok
  placed_body = let v = placed in ap (λ (a : Places). Some a.body) (sym v.2) ∙ sym (ap (λ (m : Answer Packet). value_in (map_ok report_body m)) v.1)

  placed_count : at.n_reports ≡ low_in s
  placed_count =
      let w = is_whole m s at.body placed_body in
      let v = placed in
      ap (λ (a : Places). a.n_reports) (sym v.2) ∙ ap (λ (p : Packet). length (report_blocks p)) (ok_injective (sym v.1 ∙ w.packet)) ∙ count_is m s at.body w.enough w.within

  placed_long : (n : ℕ) → n ≤ least k → n ≤ length s
  placed_long n l = let w = is_whole m s at.body placed_body in omega (arith, w.enough, w.within)

-- a report that was read tells where the parts lie
module _ {k : Kind} {min type : ℕ} {R : Type 0} {view : Packet → R} {places : R → Places} (l : ReportLaws k min type view places) (s : List ℕ) where
  module _ (o : R) (h : ok o ≡ map_ok view (read_as k s)) (at : Places) (e : at ≡ places o) where
    parsed : map_ok places_of (read_as k s) ≡ ok at
    unfolding map_ok
    parsed = let v = map_ok_inv view (read_as k s) (sym h) in ap (map_ok places_of) v.1 ∙ ap ok (sym (l.seen v.0) ∙ ap places v.2 ∙ sym e)

    body_in : Some at.body ≡ value_in (map_ok report_body (read_as k s))
    body_in = placed_body l.maker s at parsed

    count : at.n_reports ≡ low_in s
    count = placed_count l.maker s at parsed

    module _ (x : ℕ) (f : x ≡ min) where
      min_is : x ≡ least k
      min_is = f ∙ l.least_len

      pub parsed_within : x + at.n_reports * 24 ≤ length s
      parsed_within = blocks_within l.maker s at.body body_in at.n_reports count x min_is

      pub parsed_blocks : (fs : List ℕ) (ls : List Loss) (ws : List ℕ) (a : Answer ℕ × List ℕ × List Loss × List ℕ) → a ≡ lay_blocks (ok (read_blocks at.n_reports (drop x s))) fs ls ws → a ≡ lay_blocks (map_ok report_blocks (read_as k s)) fs ls ws
      parsed_blocks fs ls ws a q = lists_all l.maker s at.body body_in at.n_reports count fs ls ws a (rw min_is at q)

-- a refusal of the packet, handed on
pub index_handed : {B : Type 0} (view : Packet → B) (k : Kind) (s : List ℕ) (i : ℕ) (r : Refusal) → refused r ≡ map_ok view (read_as k s) → refused r ≡ map_ok block_view (read_block_at k s i)
unfolding read_block_at ◌>>=◌ map_ok
index_handed view k s i r h = rw (map_ok_refused view (read_as k s) (sym h))

pub lists_handed : {B : Type 0} (view : Packet → B) (k : Kind) (s : List ℕ) (q : Result ℕ ListError) (e : RtcpParseError) (f : List ℕ) (l : List Loss) (w : List ℕ) → IsErrAnd q (λ (x : ListError). x ≡ list.Refused e)
    → refused (parse_refusal e) ≡ map_ok view (read_as k s) → (listed_of q, f, l, w) ≡ lay_blocks (map_ok report_blocks (read_as k s)) f l w
unfolding lay_blocks map_ok
lists_handed view k s q e f l w h r = let p = err_from_is_err_and q h in rw (p.1, p.2, map_ok_refused view (read_as k s) (sym r))

pub ruleset reports = (rules, values, parse_handed, report_none, report_within, report_placed, index_handed, lists_handed)

-- ---- what the value that was read tells of the blocks, over the kind and its view

module _ {k : Kind} {ws : List ℕ} {who : List ℕ → Reporter} (m : ReporterKind k ws who) {O : Type 0} (view : Packet → O) (countIn : O → ℕ) (c : (p : Packet) → countIn (view p) ≡ length (report_blocks p))
    (s : List ℕ) (o : O) (h : Some o ≡ value_in (map_ok view (read_as k s))) where
  counted : (p : Packet) × (read_as k s ≡ ok p) × (length (report_blocks p) ≡ countIn o)
  counted = let v = map_ok_inv view (read_as k s) (sym (value_is (map_ok view (read_as k s)) o h)) in (v.0, v.1, sym (c v.0) ∙ ap countIn v.2)

  pub value_blocks : map_ok report_blocks (read_as k s) ≡ ok (read_blocks (countIn o) (drop (least k) s))
  unfolding map_ok
  value_blocks =
      let v = counted in
      let w = whole_is m s v.0 v.1 in
      let l : length (blocks_at k s (report_body v.0)) ≡ countIn o = ap (λ (a : Packet). length (report_blocks a)) (ok_injective (sym w.packet ∙ v.1)) ∙ v.2 in
      let e : countIn o ≡ low_in s = sym l ∙ length_read_blocks (low_in s) (drop (least k) (take (report_body v.0) s)) in
      rw (w.packet, e, drop_take (least k) (report_body v.0) s, read_blocks_take (low_in s) (report_body v.0 - least k) (drop (least k) s) (omega arith))

  pub value_within : least k + countIn o * 24 ≤ length s
  value_within =
      let v = counted in
      let w = whole_is m s v.0 v.1 in
      let l : length (blocks_at k s (report_body v.0)) ≡ countIn o = ap (λ (a : Packet). length (report_blocks a)) (ok_injective (sym w.packet ∙ v.1)) ∙ v.2 in
      let e : countIn o ≡ low_in s = sym l ∙ length_read_blocks (low_in s) (drop (least k) (take (report_body v.0) s)) in
      omega (arith, w.room, w.within)

-- ---- the parts of an accepted report, by the places of its numbers

module _ {k : Kind} {ws : List ℕ} {who : List ℕ → Reporter} (m : ReporterKind k ws who) (s : List ℕ) (p : Packet) (e : read_as k s ≡ ok p) where
  is_packet : packet_of s (report_body p) (content_at k ws who s (report_body p)) ≡ p
  is_packet = let w = whole_is m s p e in ok_injective (sym w.packet ∙ e)

  extension_part : take (report_body p - extension_at p.content) (drop (extension_at p.content) s) ≡ extension_of p.content
  extension_part =
      let w = whole_is m s p e in
      let a : extension_at p.content ≡ end k s = ap (λ (p : Packet). extension_at p.content) (sym is_packet) ∙ at_is m s (report_body p) w.enough w.within in
      ap (λ (n : ℕ). take (report_body p - n) (drop n s)) a ∙ ap (λ (p : Packet). extension_of p.content) is_packet

  padding_part : take (length p.padding) (drop (report_body p) s) ≡ p.padding
  padding_part = let q : drop (report_body p) s ≡ p.padding = ap (λ (p : Packet). p.padding) is_packet in rw q (take_all (length p.padding) p.padding (omega arith))

module _ (s : List ℕ) (p : Packet) where
  pub receiver_extension : read_as RR s ≡ ok p → take ((receiver_view p).body - (receiver_view p).extension) (drop (receiver_view p).extension s) ≡ extension_of p.content
  receiver_extension e = extension_part receiver_maker s p e

  pub receiver_padding : read_as RR s ≡ ok p → take (receiver_view p).padding_len (drop (receiver_view p).body s) ≡ p.padding
  receiver_padding e = padding_part receiver_maker s p e

  pub sender_extension : read_as SR s ≡ ok p → take ((sender_view p).body - (sender_view p).extension) (drop (sender_view p).extension s) ≡ extension_of p.content
  sender_extension e = extension_part sender_maker s p e

  pub sender_padding : read_as SR s ≡ ok p → take (sender_view p).padding_len (drop (sender_view p).body s) ≡ p.padding
  sender_padding e = padding_part sender_maker s p e

-- ---- the fields of each kind

module _ (p : Packet) (at : Places) (e : places_of p ≡ at) where
  receiver_of : (x d : ℕ) → x ≡ get_or (fields_of p.content) 0 0 → d ≡ length p.padding → record { ssrc = x; n_reports = at.n_reports; extension = at.extension; body = at.body; padding_len = d } ≡ receiver_view p
  receiver_of x d f q = rw (← e, f, q)

  sender_of : (x ntp rtp packets octets d : ℕ) → x ∷ ntp ∷ rtp ∷ packets ∷ octets ∷ [] ≡ fields_of p.content → d ≡ length p.padding
      → record { ssrc = x; ntp_timestamp = ntp; rtp_timestamp = rtp; packet_count = packets; octet_count = octets; n_reports = at.n_reports; extension = at.extension; body = at.body; padding_len = d } ≡ sender_view p
  sender_of x ntp rtp packets octets d f q = rw (← e, ← f, q)

module _ {k : Kind} {ws : List ℕ} {who : List ℕ → Reporter} (m : ReporterKind k ws who) (s : List ℕ) (at : Places) (h : map_ok places_of (read_as k s) ≡ ok at) where
  placed_padding : let v = placed m s at h in length s - at.body ≡ length v.0.padding
  placed_padding =
      let v = placed m s at h in
      sym (ap (λ (p : Packet). length p.padding) (sym (is_packet m s v.0 v.1)) ∙ length-drop (report_body v.0) s ∙ ap (λ (a : Places). length s - a.body) v.2)

  placed_inside : at.body ≤ length s
  placed_inside = let w = is_whole m s at.body (placed_body m s at h) in w.within

module _ (s : List ℕ) (at : Places) where
  pub receiver_fields : map_ok places_of (read_as RR s) ≡ ok at → (x : ℕ) → x ≡ val (take 4 (drop 4 s))
      → ok (record { ssrc = x; n_reports = at.n_reports; extension = at.extension; body = at.body; padding_len = length s - at.body }) ≡ map_ok receiver_view (read_as RR s)
  unfolding map_ok get
  receiver_fields h x e =
      let v = placed receiver_maker s at h in
      let f : get_or (fields_of v.0.content) 0 0 ≡ val (take 4 (drop 4 s)) = ap (λ (p : Packet). get_or (fields_of p.content) 0 0) (sym (is_packet receiver_maker s v.0 v.1)) in
      ap ok (receiver_of v.0 at v.2 x (length s - at.body) (e ∙ sym f) (placed_padding receiver_maker s at h)) ∙ sym (ap (map_ok receiver_view) v.1)

  pub sender_fields : map_ok places_of (read_as SR s) ≡ ok at → (x ntp rtp packets octets : ℕ) → x ≡ val (take 4 (drop 4 s)) → ntp ≡ val (take 8 (drop 8 s)) → rtp ≡ val (take 4 (drop 16 s)) → packets ≡ val (take 4 (drop 20 s)) → octets ≡ val (take 4 (drop 24 s))
      → ok (record { ssrc = x; ntp_timestamp = ntp; rtp_timestamp = rtp; packet_count = packets; octet_count = octets; n_reports = at.n_reports; extension = at.extension; body = at.body; padding_len = length s - at.body }) ≡ map_ok sender_view (read_as SR s)
  unfolding map_ok get
  sender_fields h x ntp rtp packets octets p₁ p₂ p₃ p₄ p₅ =
      let v = placed sender_maker s at h in
      let f = ap (λ (p : Packet). fields_of p.content) (sym (is_packet sender_maker s v.0 v.1)) in
      let q : x ∷ ntp ∷ rtp ∷ packets ∷ octets ∷ [] ≡ reporter_fields (sender_from (get sender_widths (drop 4 s))) =
      rw (drop-drop 4 4 s, drop-drop 8 8 s, drop-drop 4 16 s, drop-drop 4 20 s, p₁, p₂, p₃, p₄, p₅) in
      ap ok (sender_of v.0 at v.2 x ntp rtp packets octets (length s - at.body) (q ∙ sym f) (placed_padding sender_maker s at h)) ∙ sym (ap (map_ok sender_view) v.1)

-- what the fields' places ask, of each kind
module _ (s : List ℕ) (at : Places) where
  pub receiver_long : map_ok places_of (read_as RR s) ≡ ok at → 8 ≤ length s
  receiver_long h = placed_long receiver_maker s at h 8 (omega arith)

  pub receiver_inside : map_ok places_of (read_as RR s) ≡ ok at → at.body ≤ length s
  receiver_inside h = placed_inside receiver_maker s at h

  pub sender_long : map_ok places_of (read_as SR s) ≡ ok at → 28 ≤ length s
  sender_long h = placed_long sender_maker s at h 28 (omega arith)

  pub sender_inside : map_ok places_of (read_as SR s) ≡ ok at → at.body ≤ length s
  sender_inside h = placed_inside sender_maker s at h

pub ruleset fields = (rules, receiver_long, receiver_inside, sender_long, sender_inside, receiver_fields, sender_fields)
