-- The rows of `items`: row i is entry i of the packet's chunks, by its numbers and the bytes at its places.
use Rattle.std.specs.Prelude.{Ok}
use Rattle.rfc3550.proofs.Prelude.{ℕ, ◌+◌, ◌-◌, ◌/◌, true, false, ◌≡◌, refl, sym, ap, ◌∙◌, List, [], ◌∷◌, ◌++◌, append_assoc, arith, ne_eqb, length, take, replicate, length-append}
use Rattle.rfc3550.specs.Answer.{Answer, ok, map_ok}
use Rattle.rfc3550.specs.Bytes.{Bytes, be}
use Rattle.rfc3550.specs.Packet.{Item, item, priv, item_bytes, items_bytes, fill, Chunk, chunk_bytes, chunks_bytes, receiver, sender, Content, report, sdes, bye, app, unknown, Packet, padding_bit, content_bytes, layout, chunks_of, All, ItemValid, ChunkValid, Valid}
use Rattle.rfc3550.specs.Read.{SDES, kind_for, read_as}
use Rattle.rfc3550.proofs.Answers.{map_ok_inv, true≢false}
use Rattle.rfc3550.proofs.Bytes.{length_be}
use Rattle.rfc3550.proofs.Packets.{packet_sound}
use Rattle.rfc3550.proofs.Places.{value_at, prefix_at, priv_value_at}
use Rattle.utils.specs.List.{listed_of, lay_list}
use Rattle.utils.proofs.Filled.{filled}
use Rattle.sdes.specs.ItemRows.{item_rows, chunk_rows, sdes_rows}
use Rattle.sdes.specs.ItemEntries.{entries_in, item_entries, chunk_entries}

module _ (s : List ℕ) where
  item_rows_lem : (pre rest : List ℕ) (ssrc at : ℕ) (is : List Item) (rows : List ℕ) → length pre ≡ at → pre ++ (items_bytes is ++ rest) ≡ s → All ItemValid is
      → entries_in s (item_rows ssrc at is ++ rows) ≡ item_entries ssrc is ++ entries_in s rows
  unfolding item_rows items_bytes
  item_rows_lem pre rest ssrc at [] rows n e v = refl
  item_rows_lem pre rest ssrc at (item t w ∷ is) rows n e v =
      let b : pre ++ (item_bytes (item t w) ++ (items_bytes is ++ rest)) ≡ s = ap (λ (l : List ℕ). pre ++ l) (sym (append_assoc (item_bytes (item t w)) (items_bytes is) rest)) ∙ e in
      rw (ne_eqb t 0 (λ z. omega (arith, v.0.0)), ne_eqb t 8 v.0.2, value_at pre at n w (items_bytes is ++ rest) t b)
      (ap (λ (l : List (ℕ × Answer Item)). (ssrc, ok (item t w)) ∷ l)
      (item_rows_lem (pre ++ item_bytes (item t w)) rest ssrc (at + length (item_bytes (item t w))) is rows (length-append pre (item_bytes (item t w)) ∙ ap (λ (k : ℕ). k + length (item_bytes (item t w))) n)
      (append_assoc pre (item_bytes (item t w)) (items_bytes is ++ rest) ∙ b) v.1))
  item_rows_lem pre rest ssrc at (priv p w ∷ is) rows n e v =
      let b : pre ++ (item_bytes (priv p w) ++ (items_bytes is ++ rest)) ≡ s = ap (λ (l : List ℕ). pre ++ l) (sym (append_assoc (item_bytes (priv p w)) (items_bytes is) rest)) ∙ e in
      let m : at + 3 + length p - length p ≡ at + 3 = omega arith in
      rw (m, prefix_at pre at n w (items_bytes is ++ rest) p b, priv_value_at pre at n w (items_bytes is ++ rest) p b)
      (ap (λ (l : List (ℕ × Answer Item)). (ssrc, ok (priv p w)) ∷ l)
      (item_rows_lem (pre ++ item_bytes (priv p w)) rest ssrc (at + length (item_bytes (priv p w))) is rows (length-append pre (item_bytes (priv p w)) ∙ ap (λ (k : ℕ). k + length (item_bytes (priv p w))) n)
      (append_assoc pre (item_bytes (priv p w)) (items_bytes is ++ rest) ∙ b) v.1))

  chunk_rows_lem : (pre rest : List ℕ) (at : ℕ) (cs : List Chunk) → length pre ≡ at → pre ++ (chunks_bytes cs ++ rest) ≡ s → All ChunkValid cs → entries_in s (chunk_rows at cs) ≡ chunk_entries cs
  unfolding chunk_rows chunks_bytes chunk_bytes
  chunk_rows_lem pre rest at [] n e v = refl
  chunk_rows_lem pre rest at (c ∷ cs) n e v =
      let zeros : List ℕ = replicate (fill (4 + length (items_bytes c.items))) 0 in
      let b : pre ++ (chunk_bytes c ++ (chunks_bytes cs ++ rest)) ≡ s = ap (λ (l : List ℕ). pre ++ l) (sym (append_assoc (chunk_bytes c) (chunks_bytes cs) rest)) ∙ e in
      let i : (pre ++ be 4 c.ssrc) ++ (items_bytes c.items ++ (zeros ++ (chunks_bytes cs ++ rest))) ≡ s =
      append_assoc pre (be 4 c.ssrc) (items_bytes c.items ++ (zeros ++ (chunks_bytes cs ++ rest)))
      ∙ ap (λ (l : List ℕ). pre ++ (be 4 c.ssrc ++ l)) (sym (append_assoc (items_bytes c.items) zeros (chunks_bytes cs ++ rest)))
      ∙ ap (λ (l : List ℕ). pre ++ l) (sym (append_assoc (be 4 c.ssrc) (items_bytes c.items ++ zeros) (chunks_bytes cs ++ rest)))
      ∙ b in
      item_rows_lem (pre ++ be 4 c.ssrc) (zeros ++ (chunks_bytes cs ++ rest)) c.ssrc (at + 4) c.items (chunk_rows (at + length (chunk_bytes c)) cs)
      (length-append pre (be 4 c.ssrc) ∙ rw (n, length_be)) i v.0.1
      ∙ ap (λ (l : List (ℕ × Answer Item)). item_entries c.ssrc c.items ++ l)
      (chunk_rows_lem (pre ++ chunk_bytes c) rest (at + length (chunk_bytes c)) cs (length-append pre (chunk_bytes c) ∙ ap (λ (k : ℕ). k + length (chunk_bytes c)) n) (append_assoc pre (chunk_bytes c) (chunks_bytes cs ++ rest) ∙ b) v.1)

  rows_of : (c : Content) (padding : List ℕ) → kind_for c ≡ SDES → Valid (record { content = c; padding = padding }) → layout (record { content = c; padding = padding }) ≡ s
      → entries_in s (chunk_rows 4 (chunks_of c)) ≡ chunk_entries (chunks_of c)
  unfolding layout content_bytes
  rows_of (report (sender ssrc ntp rtp packets octets) bs e) padding k v q = absurd (let z : true ≡ false = cc in true≢false z)
  rows_of (report (receiver ssrc) bs e) padding k v q = absurd (let z : true ≡ false = cc in true≢false z)
  rows_of (bye ss l) padding k v q = absurd (let z : true ≡ false = cc in true≢false z)
  rows_of (app subtype ssrc name d) padding k v q = absurd (let z : true ≡ false = cc in true≢false z)
  rows_of (unknown t low b) padding k v q = absurd (let z : true ≡ false = cc in true≢false z)
  rows_of (sdes cs) padding k v q =
      chunk_rows_lem ((128 + padding_bit padding + length cs) ∷ 202 ∷ be 2 ((length (chunks_bytes cs) + length padding) / 4)) padding 4 cs (rw length_be) q v.content

-- what `items` returned, and the list that it left
pub items_listed : (s : List ℕ) → Bytes s → (n : ℕ) (l l₁ : List ℕ) → (listed_of (Ok n), l₁) ≡ lay_list (map_ok sdes_rows (read_as SDES s)) l
    → (p : Packet) × (read_as SDES s ≡ ok p) × (entries_in s (take n l₁) ≡ chunk_entries (chunks_of p.content))
items_listed s h n l l₁ e =
    let f = filled (map_ok sdes_rows (read_as SDES s)) n l l₁ e in
    let m = map_ok_inv sdes_rows (read_as SDES s) f.1 in
    let g = packet_sound SDES s m.0 h m.1 in
    (m.0, m.1, ap (entries_in s) (f.2 ∙ sym m.2) ∙ rows_of s m.0.content m.0.padding g.1 g.0 g.2)
