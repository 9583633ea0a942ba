-- The packets of an accepted datagram as rows of three numbers, laid into a list.
use Rattle.std.specs.Prelude.{Result}
use Rattle.std.specs.Result.{IsErrAnd}
use Rattle.rfc3550.proofs.Prelude.{rules, ◌≡◌, refl, sym, ap, ◌∙◌, subst, List, [], ◌∷◌, ◌++◌, ℕ, suc, ◌+◌, ◌-◌, ◌*◌, ◌<◌, ◌≤◌, ◌^◌, arith, length, take, drop, set, get_or, length-append, length-drop, drop-drop, drop-append_seam}
use Rattle.rfc3550.specs.Answer.{refusal, ok, refused, map_ok}
use Rattle.rfc3550.specs.Bytes.{store}
use Rattle.rfc3550.specs.Packet.{Packet as Read, type, layout, layouts, Valid, All}
use Rattle.rfc3550.specs.Read.{type_in, stated}
use Rattle.rfc3550.specs.Compound.{read_compound}
use Rattle.rfc3550.proofs.Answers.{map_ok_inv}
use Rattle.rfc3550.proofs.Bytes.{length_store, bytes_each}
use Rattle.rfc3550.proofs.Packets.{length_layout}
use Rattle.rfc3550.proofs.Compounds.{follow_stated, compound_sound}
use Rattle.utils.specs.Error.{parse_refusal}
use Rattle.utils.specs.List.{listed_of, lay_list}
use Rattle.utils.specs.declared.list.ListError.{ListError}
use Rattle.utils.specs.declared.list.ListError.TheVariants as list
use Rattle.utils.specs.declared.error.RtcpParseError.{RtcpParseError}
use Rattle.utils.proofs.Lists.{lay_handed, lay_short, lay_done}
use Rattle.utils.proofs.Reading.{map_ok_refused}
use Rattle.utils.proofs.WriterStores.{store_nil, store_store, puts, store_puts}
use Rattle.compound.specs.Compound.{compound_view, rows_from, packet_rows}
use Rattle.compound.specs.declared.compound.Compound.{Compound}
use Rattle.compound.proofs.Compounds.{rest_is}

length_rows : (at : ℕ) (ps : List Read) → length (rows_from at ps) ≡ length ps * 3
unfolding rows_from
length_rows at [] = refl
length_rows at (p ∷ ps) = rw (length_rows (at + length (layout p)) ps) (omega arith)

-- a packet takes four bytes at least
layouts_long : (ps : List Read) → length ps * 4 ≤ length (layouts ps)
unfolding layouts
layouts_long [] = omega arith
layouts_long (p ∷ ps) =
    let h = layouts_long ps in
    let l = length_layout p in
    rw (length-append (layout p) (layouts ps)) (omega arith)

-- ---- one row

module _ (s : List ℕ) (at : ℕ) (h : at + 4 ≤ length s) where
  pub rest_long : 4 ≤ length (take (length s - at) (drop at s))
  rest_long = rw (rest_is s at, length-drop at s) (omega arith)

  module _ (n : ℕ) (q : n ≡ stated (take (length s - at) (drop at s))) where
    pub row_length : n ≡ stated (drop at s)
    row_length = q ∙ ap stated (rest_is s at)

    pub row_laid : (l : List ℕ) (to t : ℕ) → to + 3 ≤ length l → t ≡ get_or (take (length s - at) (drop at s)) 1 0 → puts to 1 (at ∷ n ∷ []) (set l to t) ≡ store to (type_in (drop at s) ∷ at ∷ n ∷ []) l
    unfolding type_in
    row_laid l to t m p = store_puts to t (at ∷ n ∷ []) l m ∙ ap (λ (t : ℕ). store to (t ∷ at ∷ n ∷ []) l) (p ∙ ap (λ (r : List ℕ). get_or r 1 0) (rest_is s at))

-- ---- the rows, one after the other: the packets that are left lie from a place on

pub record Rows (s : List ℕ) (n : ℕ) (l : List ℕ) (at i : ℕ) (l₁ : List ℕ) : Type 0 where
  pub left : List Read
  pub whole : List Read
  pub is_read : read_compound s ≡ ok whole
  pub total : length whole ≡ n
  pub bytes : drop at s ≡ layouts left
  pub valid : All Valid left
  pub count : i + length left ≡ n
  pub within : at ≤ length s
  pub long : length l₁ ≡ length l
  pub rest : store (i * 3) (rows_from at left) l₁ ≡ store 0 (rows_from 0 whole) l

module _ (s : List ℕ) (k : (i : ℕ) → get_or s i 0 < 256) (c : Compound) (e : map_ok compound_view (read_compound s) ≡ ok c) where
  pub rows_few : length s < 2 ^ 64 → c.n_packets * 3 < 2 ^ 64
  rows_few h =
      let m = map_ok_inv compound_view (read_compound s) e in
      let w = compound_sound s m.0 (bytes_each s k) m.1 in
      let q : length m.0 ≡ c.n_packets = ap (λ (c : Compound). c.n_packets) m.2 in
      let g = layouts_long m.0 in
      let f = ap length w.1 in
      omega (arith, q, g, f)

  pub rows_start : (l : List ℕ) → Rows s c.n_packets l 0 0 l
  rows_start l =
      let m = map_ok_inv compound_view (read_compound s) e in
      let w = compound_sound s m.0 (bytes_each s k) m.1 in
      let q : length m.0 ≡ c.n_packets = ap (λ (c : Compound). c.n_packets) m.2 in
      record { left = m.0; whole = m.0; is_read = m.1; total = q; bytes = sym w.1; valid = w.0.valid; count = omega (arith, q); within = omega arith; long = refl; rest = refl }

-- the row of the next packet
record Next (s : List ℕ) (n : ℕ) (l : List ℕ) (at i : ℕ) (l₁ : List ℕ) : Type 0 where
  room : at + 4 ≤ length s
  fits : at + stated (drop at s) ≤ length s
  again : (l₂ : List ℕ) → n * 3 ≤ length l → l₂ ≡ store (i * 3) (type_in (drop at s) ∷ at ∷ stated (drop at s) ∷ []) l₁ → Rows s n l (at + stated (drop at s)) (i + 1) l₂

type_follow : (p : Read) (r : List ℕ) → type_in (layout p ++ r) ≡ type p.content
unfolding layout type_in
type_follow p r = refl

next : (s : List ℕ) (n : ℕ) (l : List ℕ) (at i : ℕ) (l₁ : List ℕ) (w : Rows s n l at i l₁) → i < n → (left : List Read) → w.left ≡ left → Next s n l at i l₁
unfolding layouts rows_from
next s n l at i l₁ w h [] e = absurd (let c = w.count in let z = ap length e in omega (arith, c, z))
next s n l at i l₁ w h (p ∷ ps) e =
    let v : All Valid (p ∷ ps) = subst (All Valid) e w.valid in
    let d : drop at s ≡ layout p ++ layouts ps = w.bytes ∙ ap layouts e in
    let st : stated (drop at s) ≡ length (layout p) = ap stated d ∙ follow_stated p v.0 (layouts ps) in
    let ty : type_in (drop at s) ≡ type p.content = ap type_in d ∙ type_follow p (layouts ps) in
    let ln : length (drop at s) ≡ length (layout p) + length (layouts ps) = ap length d ∙ length-append (layout p) (layouts ps) in
    let ld = length-drop at s in
    let lp = length_layout p in
    let ct : i + suc (length ps) ≡ n = ap (λ (ps : List Read). i + length ps) (sym e) ∙ w.count in
    let rs : store (i * 3) (type p.content ∷ at ∷ length (layout p) ∷ rows_from (at + length (layout p)) ps) l₁ ≡ store 0 (rows_from 0 w.whole) l =
    ap (λ (ps : List Read). store (i * 3) (rows_from at ps) l₁) (sym e) ∙ w.rest in
    record {
      room = omega (arith, ln, ld, lp);
      fits = omega (arith, ln, ld, st);
      again = λ l₂ f q.
          let lr = length_rows (at + length (layout p)) ps in
          let lg = w.long in
          let tt' : store ((i + 1) * 3) (rows_from (at + length (layout p)) ps) l₂ ≡ store (i * 3) (type p.content ∷ at ∷ length (layout p) ∷ rows_from (at + length (layout p)) ps) l₁ =
          ap (store ((i + 1) * 3) (rows_from (at + length (layout p)) ps)) (q ∙ rw (ty, st))
          ∙ store_store (i * 3) ((i + 1) * 3) (type p.content ∷ at ∷ length (layout p) ∷ []) (rows_from (at + length (layout p)) ps) l₁ (omega arith) (omega (arith, lr, lg, ct)) in
          record {
            left = ps;
            whole = w.whole;
            is_read = w.is_read;
            total = w.total;
            bytes = sym (drop-drop (stated (drop at s)) at s) ∙ rw (d, follow_stated p v.0 (layouts ps)) (drop-append_seam (layout p) (layouts ps));
            valid = v.1;
            count = omega (arith, ct);
            within = omega (arith, ln, ld, st);
            long = ap length q ∙ length_store (i * 3) (type_in (drop at s) ∷ at ∷ stated (drop at s) ∷ []) l₁ (omega (arith, lg, ct)) ∙ w.long;
            rest = rw st (tt' ∙ rs);
          };
    }

module _ (s : List ℕ) (n : ℕ) (l : List ℕ) (at i : ℕ) (l₁ : List ℕ) (w : Rows s n l at i l₁) where
  module _ (h : i < n) where
    pub rows_room : at + 4 ≤ length s
    rows_room = (next s n l at i l₁ w h w.left refl).room

    pub rows_scaled : n * 3 ≤ length l → i * 3 + 3 ≤ length l₁
    rows_scaled f = omega (arith, w.long)

    module _ (k : ℕ) (q : k ≡ stated (drop at s)) where
      pub rows_fits : length s < 2 ^ 64 → at + k < 2 ^ 64
      rows_fits f = omega (arith, (next s n l at i l₁ w h w.left refl).fits)

      pub rows_again : (l₂ : List ℕ) → n * 3 ≤ length l → l₂ ≡ store (i * 3) (type_in (drop at s) ∷ at ∷ k ∷ []) l₁ → Rows s n l (at + k) (i + 1) l₂
      rows_again l₂ f e = rw q ((next s n l at i l₁ w h w.left refl).again l₂ f (e ∙ ap (λ (k : ℕ). store (i * 3) (type_in (drop at s) ∷ at ∷ k ∷ []) l₁) q))

  pub rows_done : n * 3 ≤ length l → n ≤ i → (ok (n * 3), l₁) ≡ lay_list (map_ok packet_rows (read_compound s)) l
  unfolding map_ok rows_from
  rows_done f h =
      lay_done (map_ok packet_rows (read_compound s)) (packet_rows w.whole) l (n * 3) (ap (map_ok packet_rows) w.is_read) (length_rows 0 w.whole ∙ ap (λ (k : ℕ). k * 3) w.total) l₁ f
      (go w.left refl)
    where
      go : (left : List Read) → w.left ≡ left → l₁ ≡ store 0 (rows_from 0 w.whole) l
      go [] e = sym (store_nil (i * 3) l₁) ∙ ap (λ (ps : List Read). store (i * 3) (rows_from at ps) l₁) (sym e) ∙ w.rest
      go (p ∷ ps) e = absurd (omega (arith, w.count, ap length e))

-- ---- the whole call

module _ (s l : List ℕ) where
  pub packets_refused : (q : Result ℕ ListError) (e : RtcpParseError) → IsErrAnd q (λ (x : ListError). x ≡ list.Refused e) → refused (parse_refusal e) ≡ map_ok compound_view (read_compound s)
      → (listed_of q, l) ≡ lay_list (map_ok packet_rows (read_compound s)) l
  unfolding map_ok
  packets_refused q e h w = lay_handed (map_ok packet_rows (read_compound s)) q e l h (ap (map_ok packet_rows) (map_ok_refused compound_view (read_compound s) (sym w)))

  module _ (c : Compound) (e : ok c ≡ map_ok compound_view (read_compound s)) where
    pub packets_read : map_ok compound_view (read_compound s) ≡ ok c
    packets_read = sym e

    pub packets_few : ((i : ℕ) → get_or s i 0 < 256) → length s < 2 ^ 64 → c.n_packets * 3 < 2 ^ 64
    packets_few k = rows_few s k c packets_read

    pub packets_short : length l < c.n_packets * 3 → (refused (refusal 10 (c.n_packets * 3) 0), l) ≡ lay_list (map_ok packet_rows (read_compound s)) l
    unfolding map_ok
    packets_short h =
        let m = map_ok_inv compound_view (read_compound s) packets_read in
        let n : length m.0 ≡ c.n_packets = ap (λ (c : Compound). c.n_packets) m.2 in
        lay_short (map_ok packet_rows (read_compound s)) (packet_rows m.0) l (c.n_packets * 3) (ap (map_ok packet_rows) m.1) (length_rows 0 m.0 ∙ ap (λ (k : ℕ). k * 3) n) h

pub ruleset listings = (rules, rest_long, row_length, row_laid, rows_few, rows_start, rows_room, rows_scaled, rows_fits, rows_again, rows_done, packets_refused, packets_read, packets_few, packets_short)
