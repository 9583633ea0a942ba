-- What stands between the header and the padding, over the kind, both ways.
use Rattle.rfc3550.proofs.Prelude.{ℕ, ◌+◌, ◌*◌, ◌<◌, ◌≤◌, ◌≡◌, refl, sym, ap, ◌∙◌, subst, true, false, not, List, [], ◌∷◌, ◌++◌, arith, replicate, length-replicate, length, drop, length-append, length-drop, take-append-drop, take_at, drop_at, length-take-le, drop-drop, take-append_seam, drop-append_seam, le-leb, leb-true, eqb-true, ne_eqb, not-true}
use Rattle.rfc3550.specs.Answer.{ok, ◌>>=◌, ◌>>◌, need}
use Rattle.rfc3550.specs.Bytes.{Bytes, be, put, get, Fits, sum}
use Rattle.rfc3550.specs.Packet.{Block, Reporter, receiver, sender, Leaving, no_reason, reason, Content, report, sdes, bye, app, unknown, reporter_widths, reporter_fields, leaving_bytes, LeavingValid, receiver_widths, sender_widths, content_bytes, low_bits, type, ContentValid, known, All, BlockValid, blocks_bytes, chunks_bytes}
use Rattle.rfc3550.specs.Read.{Kind, SR, RR, SDES, BYE, APP, UNKNOWN, least, kind_for, kind_of, of_kind, read_content, read_blocks, read_report, read_leaving, receiver_from, sender_from}
use Rattle.rfc3550.proofs.Answers.{need_inv, bind_elim, ok_injective, true≢false}
use Rattle.rfc3550.proofs.Bytes.{bytes_take, bytes_drop, length_be, val_be, get_put, put_get, fits_get, length_put, length_get, be_take, val_take_lt, sum_replicate}
use Rattle.rfc3550.proofs.Blocks.{length_blocks_bytes, blocks_complete, blocks_sound}
use Rattle.rfc3550.proofs.Chunks.{chunks_complete, chunks_sound}

pub of_kind_lem : (c : Content) → ContentValid c → of_kind (kind_for c) (type c) (low_bits c) ≡ true
of_kind_lem (report (sender s n r p o) bs e) h = refl
of_kind_lem (report (receiver s) bs e) h = refl
of_kind_lem (sdes cs) h = refl
of_kind_lem (bye ss e) h = refl
of_kind_lem (app n s name d) h = refl
of_kind_lem (unknown t n b) h = ap not h.0

unknown_ne : (t low k : ℕ) → known t low ≡ false → known k low ≡ true → t ≡ k → ⊥
unknown_ne t low k h q e = true≢false (sym q ∙ ap (λ (t : ℕ). known t low) (sym e) ∙ h)

-- a valid packet's type and low bits lead to its kind
pub kind_of_is : (c : Content) → ContentValid c → kind_of (type c) (low_bits c) ≡ kind_for c
unfolding kind_of
kind_of_is (report (sender s n r p o) bs e) h = refl
kind_of_is (report (receiver s) bs e) h = refl
kind_of_is (sdes cs) h = refl
kind_of_is (bye ss e) h = refl
kind_of_is (app n s name d) h = refl
kind_of_is (unknown t n b) h =
    rw (
      ne_eqb t 200 (unknown_ne t n 200 h.0 refl),
      ne_eqb t 201 (unknown_ne t n 201 h.0 refl),
      ne_eqb t 202 (unknown_ne t n 202 h.0 refl),
      ne_eqb t 203 (unknown_ne t n 203 h.0 refl),
      ne_eqb t 204 (unknown_ne t n 204 h.0 refl),
    )

-- ---- reports, over the widths of what stands before the blocks

report_complete : (ws : List ℕ) (reporter : List ℕ → Reporter) (vs : List ℕ) (bs : List Block) (e : List ℕ) → Fits ws vs → All BlockValid bs
    → read_report ws reporter (length bs) (put ws vs ++ (blocks_bytes bs ++ e)) ≡ ok (report (reporter vs) bs e)
unfolding read_report need ◌>>◌ ◌>>=◌
report_complete ws reporter vs bs e f h =
    let l = length_blocks_bytes bs h in
    let w = length_put ws vs f in
    rw (
      le-leb (4 + sum ws + 24 * length bs) (4 + length (put ws vs ++ (blocks_bytes bs ++ e))) (simp length-append (omega arith)),
      ← drop-drop (24 * length bs) (sum ws) (put ws vs ++ (blocks_bytes bs ++ e)),
      get_put ws vs (blocks_bytes bs ++ e) f,
      drop_at (put ws vs) (blocks_bytes bs ++ e) (sum ws) w,
      blocks_complete bs e h,
      drop_at (blocks_bytes bs) e (24 * length bs) l,
    )

leaving_complete : (e : Leaving) (at total : ℕ) → LeavingValid e → read_leaving at total (leaving_bytes e) ≡ ok e
unfolding read_leaving need ◌>>◌
leaving_complete no_reason at total h = refl
leaving_complete (reason r t) at total h =
    simp (le-leb (length r) (length (r ++ t)) (rw length-append (omega arith)), take-append_seam r t, drop-append_seam r t)

bye_complete : (ss : List ℕ) (e : Leaving) → Fits (replicate (length ss) 4) ss → LeavingValid e → read_content BYE (length ss) 203 (put (replicate (length ss) 4) ss ++ leaving_bytes e) ≡ ok (bye ss e)
unfolding read_content need ◌>>◌ ◌>>=◌
bye_complete ss e f h =
    let l = length_put (replicate (length ss) 4) ss f ∙ sum_replicate (length ss) 4 in
    rw (
      le-leb (4 + 4 * length ss) (4 + length (put (replicate (length ss) 4) ss ++ leaving_bytes e)) (simp length-append (omega arith)),
      drop_at (put (replicate (length ss) 4) ss) (leaving_bytes e) (4 * length ss) l,
      get_put (replicate (length ss) 4) ss (leaving_bytes e) f,
      leaving_complete e (4 + 4 * length ss) (4 + length (put (replicate (length ss) 4) ss ++ leaving_bytes e)) h,
    )

pub content_complete : (c : Content) → ContentValid c → read_content (kind_for c) (low_bits c) (type c) (content_bytes c) ≡ ok c
unfolding read_content content_bytes need ◌>>◌ ◌>>=◌
content_complete (report (sender s n r p o) bs e) h = report_complete sender_widths sender_from (s ∷ n ∷ r ∷ p ∷ o ∷ []) bs e h.0 h.1
content_complete (report (receiver s) bs e) h = report_complete receiver_widths receiver_from (s ∷ []) bs e h.0 h.1
content_complete (sdes cs) h = rw (chunks_complete cs (4 + length (chunks_bytes cs)) h)
content_complete (bye ss e) h = bye_complete ss e h.0 h.1
content_complete (app n s name d) h =
    rw (
      take_at (be 4 s) (name ++ d) 4 (length_be 4 s),
      ← drop-drop 4 4 (be 4 s ++ (name ++ d)),
      drop_at (be 4 s) (name ++ d) 4 (length_be 4 s),
      val_be 4 s h.0,
      take_at name d 4 h.1,
      drop_at name d 4 h.1,
    )
content_complete (unknown t n b) h = refl

pub least_content : (c : Content) → ContentValid c → least (kind_for c) ≤ 4 + length (content_bytes c)
unfolding content_bytes sum
least_content (report (sender s n r p o) bs e) h = rw (length-append, length_put sender_widths (s ∷ n ∷ r ∷ p ∷ o ∷ []) h.0) (omega arith)
least_content (report (receiver s) bs e) h = rw (length-append, length_put receiver_widths (s ∷ []) h.0) (omega arith)
least_content (sdes cs) h = omega arith
least_content (bye ss e) h = omega arith
least_content (app n s name d) h = simp (length-append, length_be) (omega arith)
least_content (unknown t n b) h = omega arith

-- ---- what was read

pub record ContentGot (k : Kind) (n t : ℕ) (bs : List ℕ) (c : Content) : Type 0 where
  pub valid : ContentValid c
  pub bytes : content_bytes c ≡ bs
  pub count : low_bits c ≡ n
  pub kind : type c ≡ t
  pub of : kind_for c ≡ k

-- what a reader of the fields before the blocks has to be: its fields are those that it was given
record ReporterKind (k : Kind) (ws : List ℕ) (reporter : List ℕ → Reporter) (t : ℕ) : Type 0 where
  widths : (vs : List ℕ) → reporter_widths (reporter vs) ≡ ws
  fields : (bs : List ℕ) → reporter_fields (reporter (get ws bs)) ≡ get ws bs
  kind : (vs : List ℕ) (bs : List Block) (e : List ℕ) → type (report (reporter vs) bs e) ≡ t
  of : (vs : List ℕ) (bs : List Block) (e : List ℕ) → kind_for (report (reporter vs) bs e) ≡ k

sender_kind : ReporterKind SR sender_widths sender_from 200
unfolding get
sender_kind = record { widths = λ vs. refl; fields = λ bs. refl; kind = λ vs bs e. refl; of = λ vs bs e. refl }

receiver_kind : ReporterKind RR receiver_widths receiver_from 201
unfolding get
receiver_kind = record { widths = λ vs. refl; fields = λ bs. refl; kind = λ vs bs e. refl; of = λ vs bs e. refl }

report_sound : (k : Kind) (ws : List ℕ) (reporter : List ℕ → Reporter) (n t : ℕ) (bs : List ℕ) {c : Content} → ReporterKind k ws reporter t → Bytes bs → read_report ws reporter n bs ≡ ok c → ContentGot k n t bs c
unfolding read_report content_bytes
report_sound k ws reporter n t bs m h e =
    let a = need_inv _ _ _ _ _ e in
    let l : 4 + sum ws + 24 * n ≤ 4 + length bs = leb-true _ _ a.0 in
    let g = blocks_sound n (drop (sum ws) bs) (rw length-drop (omega arith)) (bytes_drop (sum ws) bs h) in
    subst (ContentGot k n t bs) (ok_injective a.1)
    (record {
      valid = (rw (m.widths (get ws bs), m.fields bs) (fits_get ws bs (omega arith) h), g.valid, bytes_drop (sum ws + 24 * n) bs h);
      bytes = rw (m.widths (get ws bs), m.fields bs, ← drop-drop (24 * n) (sum ws) bs, g.bytes) (put_get ws bs (omega arith) h);
      count = g.count;
      kind = m.kind (get ws bs) (read_blocks n (drop (sum ws) bs)) (drop (sum ws + 24 * n) bs);
      of = m.of (get ws bs) (read_blocks n (drop (sum ws) bs)) (drop (sum ws + 24 * n) bs);
    })

leaving_sound : (at total : ℕ) (bs : List ℕ) {e : Leaving} → Bytes bs → read_leaving at total bs ≡ ok e → LeavingValid e × (leaving_bytes e ≡ bs)
unfolding read_leaving
leaving_sound at total [] h q = subst (λ (e : Leaving). LeavingValid e × (leaving_bytes e ≡ [])) (ok_injective q) (tt, refl)
leaving_sound at total (l ∷ bs) h q =
    let a = need_inv _ _ _ _ _ q in
    let k : l ≤ length bs = leb-true _ _ a.0 in
    subst (λ (e : Leaving). LeavingValid e × (leaving_bytes e ≡ l ∷ bs)) (ok_injective a.1)
    ((rw (length-take-le l bs k) h.0, bytes_take l bs h.1, bytes_drop l bs h.1), rw (length-take-le l bs k, take-append-drop l bs))

pub content_sound : (k : Kind) (n t : ℕ) (bs : List ℕ) {c : Content} → Bytes bs → t < 256 → of_kind k t n ≡ true → least k ≤ 4 + length bs → read_content k n t bs ≡ ok c → ContentGot k n t bs c
unfolding read_content content_bytes
content_sound SR n t bs {c} h small q l e = subst (λ (t : ℕ). ContentGot SR n t bs c) (sym (eqb-true t 200 q)) (report_sound SR sender_widths sender_from n 200 bs sender_kind h e)
content_sound RR n t bs {c} h small q l e = subst (λ (t : ℕ). ContentGot RR n t bs c) (sym (eqb-true t 201 q)) (report_sound RR receiver_widths receiver_from n 201 bs receiver_kind h e)
content_sound SDES n t bs h small q l e =
    bind_elim _ _ e (λ cs r e₁.
    let g = chunks_sound n (4 + length bs) bs h r in
    subst (ContentGot SDES n t bs) (ok_injective e₁) (record { valid = g.0; bytes = g.1; count = g.2; kind = sym (eqb-true _ _ q); of = refl }))
content_sound BYE n t bs h small q l e =
    let a = need_inv _ _ _ _ _ e in
    let k : 4 + 4 * n ≤ 4 + length bs = leb-true _ _ a.0 in
    let s = sum_replicate n 4 in
    let c : length (get (replicate n 4) bs) ≡ n = length_get (replicate n 4) bs ∙ length-replicate n 4 in
    bind_elim _ _ a.1 (λ x r e₁.
    let g = leaving_sound (4 + 4 * n) (4 + length bs) (drop (4 * n) bs) (bytes_drop (4 * n) bs h) r in
    subst (ContentGot BYE n t bs) (ok_injective e₁)
    (record {
      valid = (rw c (fits_get (replicate n 4) bs (omega arith) h), g.0);
      bytes = rw (c, g.1, ← s) (put_get (replicate n 4) bs (omega arith) h);
      count = c;
      kind = sym (eqb-true _ _ q);
      of = refl;
    }))
content_sound APP n t bs h small q l e =
    let e₁ : 4 ≤ length (drop 4 bs) = rw length-drop (omega arith) in
    subst (ContentGot APP n t bs) (ok_injective e)
    (record {
      valid = (val_take_lt 4 bs (omega arith) h, length-take-le 4 (drop 4 bs) e₁, bytes_take 4 (drop 4 bs) (bytes_drop 4 bs h), bytes_drop 8 bs h);
      bytes = rw (be_take 4 bs (omega arith) h, ← drop-drop 4 4 bs, take-append-drop 4 (drop 4 bs)) (take-append-drop 4 bs);
      count = refl;
      kind = sym (eqb-true _ _ q);
      of = refl;
    })
content_sound UNKNOWN n t bs h small q l e =
    subst (ContentGot UNKNOWN n t bs) (ok_injective e) (record { valid = (not-true _ q, small, h); bytes = refl; count = refl; kind = refl; of = refl })

-- ---- the kind of what was read, whatever the bytes

pub content_kind : (k : Kind) (n t : ℕ) (s : List ℕ) {c : Content} → read_content k n t s ≡ ok c → kind_for c ≡ k
unfolding read_content read_report
content_kind SR n t s e = ap kind_for (sym (ok_injective (need_inv _ _ _ _ _ e).1))
content_kind RR n t s e = ap kind_for (sym (ok_injective (need_inv _ _ _ _ _ e).1))
content_kind SDES n t s e = bind_elim _ _ e (λ cs q e₁. ap kind_for (sym (ok_injective e₁)))
content_kind BYE n t s e = bind_elim _ _ (need_inv _ _ _ _ _ e).1 (λ l q e₁. ap kind_for (sym (ok_injective e₁)))
content_kind APP n t s e = ap kind_for (sym (ok_injective e))
content_kind UNKNOWN n t s e = ap kind_for (sym (ok_injective e))
