-- The turns that count and lay the rows, and the cases of the whole call.
use Rattle.std.specs.Prelude.{None, Some}
use Rattle.std.proofs.lemmas.Option.{none-some, same_Some}
use Rattle.rfc3550.proofs.Prelude.{ℕ, zero, suc, ◌+◌, ◌-◌, ◌*◌, ◌/◌, ◌^◌, ◌<◌, ◌≤◌, ◌≡◌, refl, sym, ap, ◌∙◌, subst, List, [], ◌∷◌, zero-add, arith, rules, le-leb, lt-leb, length, get_or, set, take, drop, length-take-le, leb}
use Rattle.rfc3550.specs.Answer.{Refusal, Answer, ok, refused, refusal, map_ok}
use Rattle.rfc3550.specs.Bytes.{store}
use Rattle.rfc3550.specs.Packet.{Packet, fill}
use Rattle.rfc3550.specs.Read.{SDES, read_as}
use Rattle.rfc3550.proofs.Answers.{map_ok_inv}
use Rattle.rfc3550.proofs.Bytes.{length_store}
use Rattle.utils.specs.List.{lay_if, lay_list}
use Rattle.utils.proofs.WriterStores.{store_nil, store_store, puts, store_puts}
use Rattle.sdes.specs.declared.sdes.Sdes.{Sdes}
use Rattle.sdes.specs.Sdes.{sdes_view}
use Rattle.sdes.proofs.Packets.{sdes_body}
use Rattle.sdes_chunk.specs.Item.{step_end}
use Rattle.sdes_chunk.proofs.Items.{steps}
use Rattle.utils.proofs.Reading.{got, map_ok_refused}
use Rattle.utils.proofs.Lists.{lay_handed}
use Rattle.sdes.specs.declared.items.Row.{Row}
use Rattle.sdes.specs.declared.items.Place.{Place}
use Rattle.sdes.specs.ItemRows.{sdes_rows}
use Rattle.sdes.specs.ItemPlaces.{row_of, chunk_place, place_after, row_at, HasRow, RowsAt, rows_from, Needed, RoomFor, LaidUpTo, ItemsLaid, AllLaid}
use Rattle.sdes.proofs.ItemPlaces.{chunk_none, chunk_some, after_zero, after_less, row_end, row_zero, item_within, item_next, item_less, item_stands, item_some, row_length, row_plain, row_prefix, row_value, row_one, row_rest, row_rest_fits, row_priv, row_next, length_row, length_rows, after_more, rows_most, rows_one, Reads, packet_read, packet_most}

-- ---- the count

pub record Counting (s : List ℕ) (i : ℕ) (p : Place) : Type 0 where
  pub left : ℕ
  pub whole : RowsAt (i + left) s (chunk_place s 4)
  pub rest : RowsAt left s p

pub count_start : (s : List ℕ) (p : Place) → ((n : ℕ) × RowsAt n s (chunk_place s 4)) → p ≡ chunk_place s 4 → Counting s 0 p
count_start s p h e = record { left = h.0; whole = rw zero-add h.1; rest = rw e h.1 }

has_row : (s : List ℕ) (p : Place) (n : ℕ) → p.at < length s → RowsAt n s p → HasRow s p.at
has_row s p zero l h = absurd (omega arith)
has_row s p (suc n) l h = h.0

module _ (s : List ℕ) (i : ℕ) (p : Place) (g : Counting s i p) where
  most : 2 * (i + g.left) ≤ length s - 8 + 1
  most = rows_most (i + g.left) s (chunk_place s 4) g.whole

  pub count_done : length s ≤ 262144 → length s ≤ p.at → (i ≤ 262144) × RowsAt i s (chunk_place s 4)
  count_done m l =
      let n : 0 ≡ g.left = rows_one 0 g.left s p l g.rest in
      let k = most in
      (omega arith, subst (λ (k : ℕ). RowsAt k s (chunk_place s 4)) {x = i + g.left} {y = i} (omega arith) g.whole)

  module _ (l : p.at < length s) where
    pub count_fits : length s ≤ 262144 → i + 1 < 2 ^ 64
    count_fits m = let k = most in omega arith

    pub count_has : HasRow s p.at
    count_has = has_row s p g.left l g.rest

    pub count_again : (q : Place) → q ≡ place_after s p → Counting s (i + 1) q
    count_again q e = go g.left g.whole g.rest
      where
        go : (n : ℕ) → RowsAt (i + n) s (chunk_place s 4) → RowsAt n s p → Counting s (i + 1) q
        go zero w r = absurd (omega arith)
        go (suc n) w r = record { left = n; whole = subst (λ (k : ℕ). RowsAt k s (chunk_place s 4)) {x = i + suc n} {y = i + 1 + n} (omega arith) w; rest = rw e r.1 }

-- ---- the room

pub room_sure : (s : List ℕ) (room : ℕ) → ((n : ℕ) × RowsAt n s (chunk_place s 4)) → length s / 2 * 5 ≤ room → Needed s room None
room_sure s room h l =
    let k = rows_most h.0 s (chunk_place s 4) h.1 in
    record { n = h.0; rows = h.1; enough = λ m. room_most h.0 k; short = λ k e. absurd (none-some k e) }
  where
    room_most : (n : ℕ) → 2 * n ≤ length s - 8 + 1 → n * 5 ≤ room
    room_most n k = omega arith

module _ (s : List ℕ) (room n : ℕ) (h : (n ≤ 262144) × RowsAt n s (chunk_place s 4)) where
  pub room_enough : n * 5 ≤ room → Needed s room None
  room_enough l = record { n = n; rows = h.1; enough = λ m. l; short = λ k e. absurd (none-some k e) }

  pub room_short : room < n * 5 → Needed s room (Some (n * 5))
  room_short l =
      record {
        n = n;
        rows = h.1;
        enough = λ e. absurd (none-some (n * 5) (sym e));
        short = λ k e. let q = same_Some (n * 5) k e in (sym q, omega arith);
      }

-- ---- the rows laid

pub row_laid : (r : Row) (i : ℕ) (l : List ℕ) → i + 5 ≤ length l → puts i 1 (r.type_ ∷ r.value ∷ r.prefix_len ∷ r.value_len ∷ []) (set l i r.ssrc) ≡ store i (row_of r) l
row_laid r i l h = store_puts i r.ssrc (r.type_ ∷ r.value ∷ r.prefix_len ∷ r.value_len ∷ []) l h

pub row_stored : (r : Row) (s : List ℕ) (p : Place) (i : ℕ) (l l₁ : List ℕ) → row_of r ≡ row_at s p → l₁ ≡ store i (row_of r) l → l₁ ≡ store i (row_at s p) l
row_stored r s p i l l₁ e q = q ∙ ap (λ (xs : List ℕ). store i xs l) e

pub row_ended : (s : List ℕ) (p q : Place) (n i : ℕ) (l l₁ : List ℕ) → get_or s p.at 0 ≡ 0 → n ≡ p.at + fill p.at → q ≡ chunk_place s n → l₁ ≡ store i (p.ssrc ∷ 0 ∷ p.at ∷ 0 ∷ 0 ∷ []) l
    → (q ≡ place_after s p) × (l₁ ≡ store i (row_at s p) l)
row_ended s p q n i l l₁ z f e h = (after_zero s p q n z f e, h ∙ ap (λ (xs : List ℕ). store i xs l) (row_end s p z))

module _ (s : List ℕ) (p : Place) (i : ℕ) (l : List ℕ) where
  pub lay_start : RoomFor s p l i → LaidUpTo s p i l p i l
  lay_start h = record { n = h.n; left = h.n; whole = h.rows; rest = h.rows; fits = h.fits; place = refl; long = refl; same = refl }

  module _ (q : Place) (j : ℕ) (l₁ : List ℕ) (g : LaidUpTo s p i l q j l₁) where
    pub lay_left : RoomFor s q l₁ j
    lay_left = record { n = g.left; rows = g.rest; fits = omega (arith, g.place, g.long, g.fits) }

    -- and on from there
    pub lay_more : (r : Place) (k : ℕ) (l₂ : List ℕ) → LaidUpTo s q j l₁ r k l₂ → LaidUpTo s p i l r k l₂
    lay_more r k l₂ h =
        let e : h.n ≡ g.left = rows_one h.n g.left s q h.whole g.rest in
        record {
          n = g.n;
          left = h.left;
          whole = g.whole;
          rest = h.rest;
          fits = g.fits;
          place = omega (arith, h.place, g.place);
          long = h.long ∙ g.long;
          same = h.same ∙ ap (λ (n : ℕ). store j (rows_from n s q) l₁) e ∙ g.same;
        }

    module _ (h : q.at < length s) where
      pub lay_has : HasRow s q.at
      lay_has = has_row s q g.left h g.rest

      some : (k : ℕ) → RowsAt k s q → 1 ≤ k
      some zero r = absurd (omega arith)
      some (suc k) r = omega arith

      pub lay_room : j + 5 ≤ length l₁
      lay_room = omega (arith, g.place, g.long, g.fits, some g.left g.rest)

      pub lay_again : (q₁ : Place) (l₂ : List ℕ) → (q₁ ≡ place_after s q) × (l₂ ≡ store j (row_at s q) l₁) → LaidUpTo s p i l q₁ (j + 5) l₂
      unfolding rows_from
      lay_again q₁ l₂ e = go g.left g.rest g.place g.same
        where
          go : (k : ℕ) → RowsAt k s q → j + k * 5 ≡ i + g.n * 5 → store j (rows_from k s q) l₁ ≡ store i (rows_from g.n s p) l → LaidUpTo s p i l q₁ (j + 5) l₂
          go zero r a b = absurd (omega arith)
          go (suc k) r a b =
              let f = length_row s q r.0 in
              let t = length_rows k s (place_after s q) r.1 in
              let y = g.long in
              let m = g.fits in
              record {
                n = g.n;
                left = k;
                whole = g.whole;
                rest = rw e.0 r.1;
                fits = g.fits;
                place = omega arith;
                long = ap length e.1 ∙ length_store j (row_at s q) l₁ (omega arith) ∙ g.long;
                same = rw (e.0, e.1) (store_store j (j + 5) (row_at s q) (rows_from k s (place_after s q)) l₁ (omega arith) (omega arith) ∙ b);
              }

pub items_start : (s : List ℕ) (p : Place) (i : ℕ) (l : List ℕ) → p.at < length s → RoomFor s p l i → ItemsLaid s p i l p i l
items_start s p i l h r = record { within = h; on = omega arith; laid = lay_start s p i l r }

module _ (s : List ℕ) (p : Place) (i : ℕ) (l : List ℕ) (q : Place) (j : ℕ) (l₁ : List ℕ) (g : ItemsLaid s p i l q j l₁) where
  pub items_has : HasRow s q.at
  items_has = lay_has s p i l q j l₁ g.laid g.within

  pub items_room : j + 5 ≤ length l₁
  items_room = lay_room s p i l q j l₁ g.laid g.within

  pub items_within : q.at < length s
  items_within = g.within

  pub items_zero : None ≡ step_end s q.at → get_or s q.at 0 ≡ 0
  items_zero h = row_zero s q.at items_has h

  module _ (n : ℕ) (h : Some n ≡ step_end s q.at) where
    -- an item is of the same chunk as the one before it
    pub items_again : (row : Row) (l₂ : List ℕ) → row_of row ≡ row_at s q → l₂ ≡ store j (row_of row) l₁ → ItemsLaid s p i l (record { ssrc = q.ssrc; at = n }) (j + 5) l₂
    items_again row l₂ f k =
        let e = item_next s q n h in
        let a = after_more s q items_has in
        let b = g.on in
        let w : (place_after s q).at ≡ n = ap (λ (p : Place). p.at) (sym e) in
        record {
          within = subst (λ (m : ℕ). m < length s) w (row_next s q items_has (steps s q.at n h).item);
          on = omega arith;
          laid = lay_again s p i l q j l₁ g.laid g.within (record { ssrc = q.ssrc; at = n }) l₂ (e, k ∙ ap (λ (xs : List ℕ). store j xs l₁) f);
        }

  module _ (r : Place) (l₂ : List ℕ) (e : (r ≡ place_after s q) × (l₂ ≡ store j (row_at s q) l₁)) where
    pub chunk_laid : (p.at < r.at) × LaidUpTo s p i l r (j + 5) l₂
    chunk_laid =
        let a = after_more s q items_has in
        let b = g.on in
        (rw e.0 (omega arith), lay_again s p i l q j l₁ g.laid g.within r l₂ e)

pub rows_start : (s : List ℕ) (l : List ℕ) (p : Place) → RoomFor s (chunk_place s 4) l 0 → p ≡ chunk_place s 4 → LaidUpTo s (chunk_place s 4) 0 l p 0 l
rows_start s l p h e = rw e (lay_start s (chunk_place s 4) 0 l h)

pub rows_done : (s l : List ℕ) (p : Place) (i : ℕ) (l₁ : List ℕ) → LaidUpTo s (chunk_place s 4) 0 l p i l₁ → length s ≤ p.at → AllLaid s l i l₁
unfolding rows_from
rows_done s l p i l₁ g h =
    let z : 0 ≡ g.left = rows_one 0 g.left s p h g.rest in
    record { n = g.n; rows = g.whole; size = omega (arith, g.place); laid = sym (store_nil i l₁) ∙ (rw (← z) at g.same) }

pub chunk_less : (s : List ℕ) (p q : Place) → p.at < length s → p.at < q.at → length s - q.at < length s - p.at
chunk_less s p q l e = omega arith

-- ---- the call

not_room : (xs l : List ℕ) (n : ℕ) → length xs ≡ n → length l < n → lay_if (leb (length xs) (length l)) xs l ≡ (refused (refusal 10 n 0), l)
not_room xs l n e h = rw (lt-leb (length xs) (length l) (omega arith), e)

in_room : (xs l : List ℕ) (n : ℕ) → length xs ≡ n → n ≤ length l → lay_if (leb (length xs) (length l)) xs l ≡ (ok n, store 0 xs l)
in_room xs l n e h = rw (le-leb (length xs) (length l) (omega arith), e)

pub items_refused : (s : List ℕ) (k : Refusal) → refused k ≡ map_ok sdes_view (read_as SDES s) → map_ok sdes_rows (read_as SDES s) ≡ refused k
unfolding map_ok
items_refused s k e = rw (map_ok_refused sdes_view (read_as SDES s) (sym e))

module _ (s : List ℕ) (p : Sdes) (h : ok p ≡ map_ok sdes_view (read_as SDES s)) where
  found : (x : Packet) × (read_as SDES s ≡ ok x) × (sdes_view x ≡ p)
  found = map_ok_inv sdes_view (read_as SDES s) (sym h)

  pub items_inside : p.body ≤ length s
  items_inside = let g = got SDES s found.0 found.1 in rw (sym (ap (λ (p : Sdes). p.body) found.2) ∙ sdes_body s found.0 g) g.within

  ends : (sdes_view found.0).body ≡ p.body
  ends = ap (λ (p : Sdes). p.body) found.2

  reads : Reads (take p.body s) (chunk_place (take p.body s) 4) (sdes_rows found.0)
  reads = packet_read s found.0 found.1 p.body ends

  pub items_body : p.body ≡ length (take p.body s)
  items_body = sym (length-take-le p.body s items_inside)

  pub items_most : ((i : ℕ) → get_or s i 0 < 256) → length (take p.body s) ≤ 262144
  items_most k = rw (← items_body) (packet_most s found.0 found.1 p.body ends k)

  pub items_rows : (n : ℕ) × RowsAt n (take p.body s) (chunk_place (take p.body s) 4)
  items_rows = (reads.n, reads.rows)

  module _ (l : List ℕ) where
    same : (n : ℕ) → RowsAt n (take p.body s) (chunk_place (take p.body s) 4) → rows_from n (take p.body s) (chunk_place (take p.body s) 4) ≡ sdes_rows found.0
    same n c = ap (λ (k : ℕ). rows_from k (take p.body s) (chunk_place (take p.body s) 4)) (rows_one n reads.n (take p.body s) (chunk_place (take p.body s) 4) c reads.rows) ∙ reads.same

    size : (n : ℕ) → RowsAt n (take p.body s) (chunk_place (take p.body s) 4) → length (sdes_rows found.0) ≡ n * 5
    size n c = ap length (sym (same n c)) ∙ length_rows n (take p.body s) (chunk_place (take p.body s) 4) c

    laid : lay_list (map_ok sdes_rows (read_as SDES s)) l ≡ lay_if (leb (length (sdes_rows found.0)) (length l)) (sdes_rows found.0) l
    unfolding lay_list map_ok
    laid = ap (λ (a : Answer Packet). lay_list (map_ok sdes_rows a) l) found.1

    pub items_short : (r : ℕ) → Needed (take p.body s) (length l) (Some r) → (refused (refusal 10 r 0), l) ≡ lay_list (map_ok sdes_rows (read_as SDES s)) l
    items_short r c = let w = c.short r refl in sym (laid ∙ not_room (sdes_rows found.0) l r (size c.n c.rows ∙ sym w.0) w.1)

    pub items_laid : Needed (take p.body s) (length l) None → (r : ℕ) (l₁ : List ℕ) → AllLaid (take p.body s) l r l₁ → (ok r, l₁) ≡ lay_list (map_ok sdes_rows (read_as SDES s)) l
    items_laid c r l₁ w =
        let z : length (sdes_rows found.0) ≡ c.n * 5 = size c.n c.rows in
        let y : length (sdes_rows found.0) ≡ r = size w.n w.rows ∙ sym w.size in
        let q = c.enough refl in
        sym (laid ∙ in_room (sdes_rows found.0) l r y (omega arith) ∙ ap (λ (xs : List ℕ). (ok r, store 0 xs l)) (sym (same w.n w.rows)) ∙ ap (λ (k : List ℕ). (ok r, k)) (sym w.laid))

pub ruleset rows = (rules, chunk_none, chunk_some, after_zero, after_less, row_end, row_zero, item_within, item_next, item_less, item_stands, item_some, row_length, row_plain, row_prefix, row_value, row_one, row_rest, row_rest_fits, row_priv, count_start, count_done, count_fits, count_has, count_again, room_sure, room_enough, room_short, row_laid, row_stored, row_ended, lay_left, lay_more, items_start, items_has, items_room, items_within, items_zero, items_again, chunk_laid, rows_start, rows_done, chunk_less, lay_handed, items_refused, items_inside, items_body, items_short, items_laid)
