-- Compounds: reading accepts exactly the layouts of the lists that meet the rules, and each has one list.
use Rattle.rfc3550.proofs.Prelude.{ℕ, zero, suc, ◌+◌, ◌/◌, ◌%◌, ◌<◌, ◌≤◌, ◌≡◌, refl, sym, ap, ◌∙◌, subst, ◌↔◌, ◌⊎◌, inl, inr, Bool, true, false, not, ◌||◌, List, [], ◌∷◌, ◌++◌, append-nil, arith, length, take, drop, length-append, length-drop, take-append-drop, take_at, drop_at, drop-length, drop-append-le, take-append-le, drop-append_seam, eqb, le-leb, leb-true, eqb-true, eqb-false, eq-eqb, ne_eqb}
use Rattle.rfc3550.specs.Answer.{Answer, ok, ◌>>=◌, ◌>>◌, need}
use Rattle.rfc3550.specs.Bytes.{Bytes}
use Rattle.rfc3550.specs.Packet.{Packet, low_bits, type, padding_bit, layout, layouts, Valid, All, is_report, OnlyLastPadded, Compound}
use Rattle.rfc3550.specs.Read.{kind_for, kind_of, version_in, padded, low_in, type_in, stated}
use Rattle.rfc3550.specs.Compound.{read_packet, read_packets, read_compound}
use Rattle.rfc3550.proofs.Answers.{need_inv, bind_elim, ok_injective, true≢false, or_inv, or_true}
use Rattle.rfc3550.proofs.Bytes.{bytes_take, bytes_drop}
use Rattle.rfc3550.proofs.Packets.{packet_complete, packet_sound, kind_is, version_is, stated_is, length_layout, layout_injective}

-- ---- the header of a packet that bytes follow

-- a packet is padded only where nothing follows it
abbrev pub Last : Packet → List ℕ → Type 0
Last p r = (p.padding ≡ []) ⊎ (r ≡ [])

stated_follow : (a r : List ℕ) → 4 ≤ length a → stated (a ++ r) ≡ stated a
unfolding stated
stated_follow a r l = rw (drop-append-le 2 a r (omega arith), take-append-le 2 (drop 2 a) r (rw length-drop (omega arith)))

flag : (padding : List ℕ) (n : ℕ) → n < 32 → (eqb ((128 + padding_bit padding + n) / 32 % 2) 1 ≡ false) ↔ (padding ≡ [])
flag [] n h = (λ e. refl, λ e. ne_eqb ((128 + 0 + n) / 32 % 2) 1 (omega arith))
flag (b ∷ bs) n h = (λ e. absurd (eqb-false ((128 + 32 + n) / 32 % 2) 1 e (omega arith)), λ e. let z : true ≡ false = cc in absurd (true≢false z))

module _ (p : Packet) (v : Valid p) (r : List ℕ) where
  pub follow_stated : stated (layout p ++ r) ≡ length (layout p)
  follow_stated = stated_follow (layout p) r (rw (length_layout p) (omega arith)) ∙ stated_is p v

  follow_version : version_in (layout p ++ r) ≡ 2
  unfolding layout version_in
  follow_version = version_is p v

  follow_type : type_in (layout p ++ r) ≡ type p.content
  unfolding layout type_in
  follow_type = refl

  follow_kind : kind_of (type p.content) (low_in (layout p ++ r)) ≡ kind_for p.content
  unfolding layout low_in type_in
  follow_kind = kind_is p v

  follow_padded : (padded (layout p ++ r) ≡ false) ↔ (p.padding ≡ [])
  unfolding layout padded
  follow_padded = flag p.padding (low_bits p.content) v.low

  last_test : Last p r → not (padded (layout p ++ r)) || eqb (length (layout p)) (length (layout p ++ r)) ≡ true
  last_test (inl e) = rw (follow_padded.1 e)
  last_test (inr e) =
      rw (eq-eqb (length (layout p)) (length (layout p ++ r)) (ap length (sym (ap (λ (l : List ℕ). layout p ++ l) e ∙ append-nil (layout p))))) (or_true (not (padded (layout p ++ r))))

  pub one_complete : (first : Bool) → Last p r → not first || is_report (type p.content) ≡ true → read_packet first (layout p ++ r) ≡ ok p
  unfolding read_packet need ◌>>◌
  one_complete first l q =
      simp (
        last_test l,
        follow_version,
        follow_kind,
        follow_type,
        q,
        follow_stated,
        le-leb 4 (length (layout p ++ r)) (rw (length-append (layout p) r, length_layout p) (omega arith)),
        le-leb (length (layout p)) (length (layout p ++ r)) (rw (length-append (layout p) r) (omega arith)),
        take_at (layout p) r (length (layout p)) refl,
      ) (packet_complete p v)

  pub follow_drop : drop (stated (layout p ++ r)) (layout p ++ r) ≡ r
  follow_drop = rw follow_stated (drop-append_seam (layout p) r)

-- ---- what reading one packet at the start of the bytes left says

record One (first : Bool) (s : List ℕ) (p : Packet) : Type 0 where
  valid : Valid p
  bytes : layout p ++ drop (stated s) s ≡ s
  last : Last p (drop (stated s) s)
  report : not first || is_report (type p.content) ≡ true

last_sound : (s : List ℕ) (p : Packet) → Valid p → layout p ++ drop (stated s) s ≡ s → not (padded s) || eqb (stated s) (length s) ≡ true → Last p (drop (stated s) s)
last_sound s p v q h = go (or_inv (padded s) _ h)
  where
    go : (padded s ≡ false) ⊎ (eqb (stated s) (length s) ≡ true) → Last p (drop (stated s) s)
    go (inl e) = inl ((follow_padded p v (drop (stated s) s)).0 (ap padded q ∙ e))
    go (inr e) = inr (ap (λ (n : ℕ). drop n s) (eqb-true (stated s) (length s) e) ∙ drop-length s)

one_sound : (first : Bool) (s : List ℕ) (p : Packet) → Bytes s → read_packet first s ≡ ok p → One first s p
unfolding read_packet
one_sound first s p h e =
    let a = need_inv _ _ _ _ _ e in
    let b = need_inv _ _ _ _ _ a.1 in
    let c = need_inv _ _ _ _ _ b.1 in
    let d = need_inv _ _ _ _ _ c.1 in
    let f = need_inv _ _ _ _ _ d.1 in
    let g = packet_sound _ (take (stated s) s) p (bytes_take (stated s) s h) f.1 in
    let q : layout p ++ drop (stated s) s ≡ s = rw g.2 (take-append-drop (stated s) s) in
    record { valid = g.0; bytes = q; last = last_sound s p g.0 q d.0; report = rw (← follow_type p g.0 (drop (stated s) s), q) f.0 }

-- ---- the packets after the first

pub last_of : (p : Packet) (ps : List Packet) → OnlyLastPadded (p ∷ ps) → Last p (layouts ps)
unfolding layouts
last_of p [] h = inr refl
last_of p (q ∷ ps) h = inl h.0

pub tail_of : (p : Packet) (ps : List Packet) → OnlyLastPadded (p ∷ ps) → OnlyLastPadded ps
tail_of p [] h = tt
tail_of p (q ∷ ps) h = h.1

last_cons : (p : Packet) (ps : List Packet) → Last p (layouts ps) → OnlyLastPadded ps → OnlyLastPadded (p ∷ ps)
unfolding layouts layout
last_cons p [] l h = tt
last_cons p (q ∷ ps) (inl e) h = (e, h)
last_cons p (q ∷ ps) (inr e) h = absurd (let z : true ≡ false = cc in true≢false z)

more_step : (f : ℕ) (p : Packet) (v : Valid p) (r : List ℕ) → Last p r → {ps : List Packet} → read_packets f r ≡ ok ps → read_packets (suc f) (layout p ++ r) ≡ ok (p ∷ ps)
unfolding read_packets ◌>>=◌ layout
more_step f p v r l e = rw (one_complete p v r false l refl, follow_drop p v r, e)

more_complete : (ps : List Packet) (f : ℕ) → All Valid ps → OnlyLastPadded ps → length ps ≤ f → read_packets f (layouts ps) ≡ ok ps
unfolding read_packets layouts
more_complete [] zero v h l = refl
more_complete [] (suc f) v h l = refl
more_complete (p ∷ ps) zero v h l = absurd (omega arith)
more_complete (p ∷ ps) (suc f) v h l = more_step f p v.0 (layouts ps) (last_of p ps h) (more_complete ps f v.1 (tail_of p ps h) (omega arith))

record More (s : List ℕ) (ps : List Packet) : Type 0 where
  valid : All Valid ps
  bytes : layouts ps ≡ s
  padding : OnlyLastPadded ps

more_cons : (first : Bool) (s : List ℕ) (p : Packet) (ps : List Packet) → One first s p → More (drop (stated s) s) ps → More s (p ∷ ps)
unfolding layouts
more_cons first s p ps o m =
    record { valid = (o.valid, m.valid); bytes = rw m.bytes o.bytes; padding = last_cons p ps (rw m.bytes o.last) m.padding }

more_nil : {ps : List Packet} → ◌≡◌ {A = Answer (List Packet)} (ok []) (ok ps) → More [] ps
unfolding layouts
more_nil e = subst (More []) (ok_injective e) (record { valid = tt; bytes = refl; padding = tt })

more_sound : (f : ℕ) (s : List ℕ) (ps : List Packet) → Bytes s → length s ≤ f → read_packets f s ≡ ok ps → More s ps
unfolding read_packets stated
more_sound zero [] ps h l e = more_nil e
more_sound zero (b ∷ s) ps h l e = absurd (omega arith)
more_sound (suc f) [] ps h l e = more_nil e
more_sound (suc f) (b ∷ s) ps h l e =
    bind_elim _ _ e (λ p q e₁.
    bind_elim _ _ e₁ (λ qs q₁ e₂.
    subst (More (b ∷ s)) (ok_injective e₂)
    (more_cons false (b ∷ s) p qs (one_sound false (b ∷ s) p h q)
    (more_sound f (drop (stated (b ∷ s)) (b ∷ s)) qs (bytes_drop (stated (b ∷ s)) (b ∷ s) h) (rw length-drop (omega arith)) q₁))))

-- ---- the whole

layouts_le : (ps : List Packet) → length ps ≤ length (layouts ps)
unfolding layouts layout
layouts_le [] = omega arith
layouts_le (p ∷ ps) = rw (length-append (layout p) (layouts ps)) (omega (arith, layouts_le ps))

pub compound_complete : (ps : List Packet) → Compound ps → read_compound (layouts ps) ≡ ok ps
unfolding read_compound layouts need ◌>>◌ ◌>>=◌
compound_complete [] c = absurd (true≢false (sym c.report))
compound_complete (p ∷ ps) c =
    simp (
      one_complete p c.valid.0 (layouts ps) true (last_of p ps c.padding) c.report,
      follow_drop p c.valid.0 (layouts ps),
      more_complete ps (length (layout p ++ layouts ps)) c.valid.1 (tail_of p ps c.padding) (rw (length-append (layout p) (layouts ps)) (omega (arith, layouts_le ps))),
      c.cname,
    )

pub compound_sound : (s : List ℕ) (ps : List Packet) → Bytes s → read_compound s ≡ ok ps → Compound ps × (layouts ps ≡ s)
unfolding read_compound
compound_sound s ps h e =
    bind_elim _ _ e (λ p q e₁.
    bind_elim _ _ e₁ (λ qs q₁ e₂.
    let o = one_sound true s p h q in
    let m = more_cons true s p qs o (more_sound (length s) (drop (stated s) s) qs (bytes_drop (stated s) s h) (rw length-drop (omega arith)) q₁) in
    let n = need_inv _ _ _ _ _ e₂ in
    subst (λ (ps : List Packet). Compound ps × (layouts ps ≡ s)) (ok_injective n.1)
    (record { valid = m.valid; report = o.report; cname = n.0; padding = m.padding }, m.bytes)))

-- reading gives the list exactly where the list meets the rules and is laid out as the bytes
pub compound_iff : (s : List ℕ) (ps : List Packet) → Bytes s → (read_compound s ≡ ok ps) ↔ (Compound ps × (layouts ps ≡ s))
compound_iff s ps h = (compound_sound s ps h, λ c. ap read_compound (sym c.1) ∙ compound_complete ps c.0)

-- no two lists of valid packets have the same bytes, whether or not they meet the rules: a packet states its length
pub layouts_injective : (ps qs : List Packet) → All Valid ps → All Valid qs → layouts ps ≡ layouts qs → ps ≡ qs
unfolding layouts layout
layouts_injective [] [] v w e = refl
layouts_injective [] (q ∷ qs) v w e = absurd (let z : true ≡ false = cc in true≢false z)
layouts_injective (p ∷ ps) [] v w e = absurd (let z : true ≡ false = cc in true≢false z)
layouts_injective (p ∷ ps) (q ∷ qs) v w e =
    let n : length (layout p) ≡ length (layout q) = sym (follow_stated p v.0 (layouts ps)) ∙ ap stated e ∙ follow_stated q w.0 (layouts qs) in
    let one : p ≡ q = layout_injective p q v.0 w.0 (sym (take_at (layout p) (layouts ps) _ refl) ∙ ap (take (length (layout p))) e ∙ take_at (layout q) (layouts qs) _ (sym n)) in
    let rest : ps ≡ qs = layouts_injective ps qs v.1 w.1 (sym (drop_at (layout p) (layouts ps) _ refl) ∙ ap (drop (length (layout p))) e ∙ drop_at (layout q) (layouts qs) _ (sym n)) in
    rw (one, rest)

-- ---- turns: as many as there are bytes are enough

-- a packet that was read takes four bytes at least, and no more than are left
pub packet_span : (first : Bool) (s : List ℕ) {p : Packet} → read_packet first s ≡ ok p → (4 ≤ stated s) × (stated s ≤ length s)
unfolding read_packet stated
packet_span first s e =
    let a = need_inv _ _ _ _ _ e in
    let b = need_inv _ _ _ _ _ a.1 in
    let c = need_inv _ _ _ _ _ b.1 in
    (omega arith, leb-true _ _ c.0)

pub packets_turns : (f g : ℕ) (s : List ℕ) → length s ≤ f → length s ≤ g → read_packets f s ≡ read_packets g s
unfolding read_packets stated
packets_turns zero zero s p q = refl
packets_turns zero (suc g) [] p q = refl
packets_turns zero (suc g) (b ∷ s) p q = absurd (omega arith)
packets_turns (suc f) zero [] p q = refl
packets_turns (suc f) zero (b ∷ s) p q = absurd (omega arith)
packets_turns (suc f) (suc g) [] p q = refl
packets_turns (suc f) (suc g) (b ∷ s) p q =
    ap (λ (r : Answer (List Packet)). read_packet false (b ∷ s) >>= λ (x : Packet). r >>= λ (ps : List Packet). ok (x ∷ ps))
    (packets_turns f g (drop (stated (b ∷ s)) (b ∷ s)) (rw length-drop (omega arith)) (rw length-drop (omega arith)))
