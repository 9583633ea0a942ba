-- Writing: what passes the tests is a valid packet, over the kind, and a write lays down its layout and nothing else.
use Rattle.rfc3550.proofs.Prelude.{ℕ, zero, suc, ◌+◌, ◌-◌, ◌*◌, ◌%◌, ◌^◌, ◌<◌, ◌≤◌, ◌≡◌, refl, sym, ap, ◌∙◌, subst, Bool, true, false, ◌||◌, not, List, [], ◌∷◌, ◌++◌, append-nil, map, arith, length, take, drop, get_or, replicate, length-append, length-drop, length-map, length-replicate, get_or_at, leb, eqb, leb-true, eqb-true, eqb-false, eq-eqb, not-true}
use Rattle.rfc3550.specs.Answer.{Refusal, Answer, ok, refused, ◌>>◌, need, pick}
use Rattle.rfc3550.specs.Bytes.{Bytes, put, Fits, sum}
use Rattle.rfc3550.specs.Loss.{Loss, no_loss, LossFits}
use Rattle.rfc3550.specs.Packet.{Block, Reporter, receiver, sender, item, priv, Chunk, All, receiver_widths, sender_widths, reporter_widths, reporter_fields, item_bytes, chunk_bytes, chunks_bytes, leaving_bytes, content_bytes, low_bits, layout, BlockValid, ItemValid, ChunkValid, LeavingValid, ContentValid, PaddingValid, Valid}
use Rattle.rfc3550.specs.Write.{BlockLists, lent_blocks, blocks_lent, words_of, lists_of, LentItem, LentChunk, lent_items, lent_chunks, Given, give_report, give_sdes, give_bye, give_app, Typed, padding_bytes, leaving_of, item_given, items_given, chunk_given, chunks_given, name_given, content_given, padding_given, packet_given, padding_ok, blocks_agree, loss_tests, item_tests, items_tests, own_tests, size_given, tests, calculate_size, item_size, chunk_size, room, written, write, write_item, write_chunk}
use Rattle.rfc3550.proofs.Answers.{need_inv, need_ok, then_inv, bind_elim, ok_injective, and_inv}
use Rattle.rfc3550.proofs.Bytes.{bytes_take, bytes_drop, bytes_append, bytes_zeros, length_be, length_put, sum_replicate, store_front}
use Rattle.rfc3550.proofs.Losses.{no_loss_fits, loss_bits_lt, loss_in_fits}
use Rattle.rfc3550.proofs.Blocks.{length_blocks_bytes}
use Rattle.rfc3550.proofs.Packets.{length_layout}

-- ---- padding

pub length_padding_bytes : (k : ℕ) → length (padding_bytes k) ≡ k
length_padding_bytes zero = refl
length_padding_bytes (suc k) = simp (length-append, length-replicate) (omega arith)

padding_valid : (k : ℕ) → padding_ok k ≡ true → PaddingValid (padding_bytes k)
padding_valid zero o = (refl, refl, tt)
padding_valid (suc k) o =
    let b = and_inv _ _ o in
    let m : suc k % 4 ≡ 0 = eqb-true _ _ b.0 in
    let l : suc k ≤ 252 = leb-true _ _ b.1 in
    let n : length (padding_bytes (suc k)) ≡ suc k = length_padding_bytes (suc k) in
    (rw n m, rw n (get_or_at (replicate k 0) (suc k) [] 0 (suc k - 1) (length-replicate k 0 ∙ omega arith)), bytes_append (replicate k 0) (suc k ∷ []) (bytes_zeros k) (omega arith, tt))

-- ---- reports

-- a loss that passed, or that was not lent
loss_fits : (xs : List Loss) → loss_tests xs ≡ ok tt → LossFits (get_or xs 0 no_loss) × (loss_tests (drop 1 xs) ≡ ok tt)
unfolding loss_tests
loss_fits [] e = (no_loss_fits, refl)
loss_fits (x ∷ xs) e = let a = need_inv _ _ _ _ _ e in (loss_in_fits x a.0, a.1)

word_fits : (ws : List ℕ) (i : ℕ) → Fits (replicate (length ws) 4) ws → get_or ws i 0 < 256 ^ 4
word_fits [] i h = omega arith
word_fits (w ∷ ws) zero h = h.0
word_fits (w ∷ ws) (suc i) h = word_fits ws i h.1

words_drop : (n : ℕ) (ws : List ℕ) → Fits (replicate (length ws) 4) ws → Fits (replicate (length (drop n ws)) 4) (drop n ws)
words_drop zero ws h = h
words_drop (suc n) [] h = tt
words_drop (suc n) (w ∷ ws) h = words_drop n ws h.1

pub length_lent_blocks : (fs : List ℕ) (ls : List Loss) (ws : List ℕ) → length (lent_blocks fs ls ws) ≡ length fs
unfolding lent_blocks
length_lent_blocks [] ls ws = refl
length_lent_blocks (f ∷ fs) ls ws = ap suc (length_lent_blocks fs (drop 1 ls) (drop 5 ws))

blocks_valid : (fs : List ℕ) (ls : List Loss) (ws : List ℕ) → Bytes fs → Fits (replicate (length ws) 4) ws → loss_tests ls ≡ ok tt → All BlockValid (lent_blocks fs ls ws)
unfolding lent_blocks
blocks_valid [] ls ws hf hw e = tt
blocks_valid (f ∷ fs) ls ws hf hw e =
    let a = loss_fits ls e in (
      ((word_fits ws 0 hw, (hf.0, (loss_bits_lt (get_or ls 0 no_loss), (word_fits ws 1 hw, (word_fits ws 2 hw, (word_fits ws 3 hw, (word_fits ws 4 hw, tt))))))), a.0),
      blocks_valid fs (drop 1 ls) (drop 5 ws) hf.1 (words_drop 5 ws hw) a.1,
    )

-- blocks lent as records give lists that agree, and these give the blocks back
length_words_of : (bs : List Block) → length (words_of bs) ≡ 5 * length bs
unfolding words_of
length_words_of [] = refl
length_words_of (b ∷ bs) = rw (length_words_of bs) (omega arith)

pub blocks_lent_lists_of : (bs : List Block) → blocks_lent (lists_of bs) ≡ bs
unfolding lent_blocks words_of
blocks_lent_lists_of [] = refl
blocks_lent_lists_of (b ∷ bs) = ap (λ (bs : List Block). b ∷ bs) (blocks_lent_lists_of bs)

pub blocks_agree_lists_of : (bs : List Block) → blocks_agree (lists_of bs) ≡ true
blocks_agree_lists_of bs =
    rw (length-map bs (λ (b : Block). b.lost), length-map bs (λ (b : Block). b.fraction), length_words_of bs, eq-eqb (length bs) (length bs) refl, eq-eqb (5 * length bs) (5 * length bs) refl)

-- from records 24 never comes: their order is 18, 11, 17
pub own_tests_lists_of : (r : Reporter) (bs : List Block) (k : ℕ)
    → own_tests (give_report r (lists_of bs) k) ≡ (need (leb (length bs) 31) 18 (length bs) 31 >> need (padding_ok k) 11 k 0 >> loss_tests (map (λ (b : Block). b.lost) bs))
unfolding own_tests need ◌>>◌
own_tests_lists_of r bs k = rw (blocks_agree_lists_of bs, length-map bs (λ (b : Block). b.fraction))

-- lists that agree are those of their blocks
five : (ws : List ℕ) → 5 ≤ length ws → ws ≡ get_or ws 0 0 ∷ get_or ws 1 0 ∷ get_or ws 2 0 ∷ get_or ws 3 0 ∷ get_or ws 4 0 ∷ drop 5 ws
five [] h = absurd (omega arith)
five (a ∷ []) h = absurd (omega arith)
five (a ∷ b ∷ []) h = absurd (omega arith)
five (a ∷ b ∷ c ∷ []) h = absurd (omega arith)
five (a ∷ b ∷ c ∷ d ∷ []) h = absurd (omega arith)
five (a ∷ b ∷ c ∷ d ∷ e ∷ ws) h = refl

fractions_back : (fs : List ℕ) (ls : List Loss) (ws : List ℕ) → map (λ (b : Block). b.fraction) (lent_blocks fs ls ws) ≡ fs
unfolding lent_blocks
fractions_back [] ls ws = refl
fractions_back (f ∷ fs) ls ws = ap (λ (l : List ℕ). f ∷ l) (fractions_back fs (drop 1 ls) (drop 5 ws))

losses_back : (fs : List ℕ) (ls : List Loss) (ws : List ℕ) → length ls ≡ length fs → map (λ (b : Block). b.lost) (lent_blocks fs ls ws) ≡ ls
unfolding lent_blocks
losses_back [] [] ws h = refl
losses_back [] (x ∷ ls) ws h = absurd (omega arith)
losses_back (f ∷ fs) [] ws h = absurd (omega arith)
losses_back (f ∷ fs) (x ∷ ls) ws h = ap (λ (l : List Loss). x ∷ l) (losses_back fs ls (drop 5 ws) (omega arith))

words_back : (fs : List ℕ) (ls : List Loss) (ws : List ℕ) → length ws ≡ 5 * length fs → words_of (lent_blocks fs ls ws) ≡ ws
unfolding lent_blocks words_of
words_back [] ls [] h = refl
words_back [] ls (w ∷ ws) h = absurd (omega arith)
words_back (f ∷ fs) ls ws h =
    ap (λ (l : List ℕ). get_or ws 0 0 ∷ get_or ws 1 0 ∷ get_or ws 2 0 ∷ get_or ws 3 0 ∷ get_or ws 4 0 ∷ l) (words_back fs (drop 1 ls) (drop 5 ws) (rw length-drop (omega arith)))
    ∙ sym (five ws (omega arith))

pub lists_of_blocks_lent : (l : BlockLists) → blocks_agree l ≡ true → lists_of (blocks_lent l) ≡ l
lists_of_blocks_lent l h =
    let a = and_inv _ _ h in
    rw (fractions_back l.fractions l.losses l.words, losses_back l.fractions l.losses l.words (eqb-true _ _ a.0), words_back l.fractions l.losses l.words (eqb-true _ _ a.1))

reporter_words : (r : Reporter) → Fits (reporter_widths r) (reporter_fields r) → length (put (reporter_widths r) (reporter_fields r)) % 4 ≡ 0
unfolding sum
reporter_words (receiver s) h = rw (length_put receiver_widths (s ∷ []) h)
reporter_words (sender s n r p o) h = rw (length_put sender_widths (s ∷ n ∷ r ∷ p ∷ o ∷ []) h)

-- ---- SDES

all_take : {A : Type 0} (P : A → Type 0) (n : ℕ) (l : List A) → All P l → All P (take n l)
all_take P zero l h = tt
all_take P (suc n) [] h = tt
all_take P (suc n) (x ∷ xs) h = (h.0, all_take P n xs h.1)

all_drop : {A : Type 0} (P : A → Type 0) (n : ℕ) (l : List A) → All P l → All P (drop n l)
all_drop P zero l h = h
all_drop P (suc n) [] h = tt
all_drop P (suc n) (x ∷ xs) h = all_drop P n xs h.1

abbrev pub ItemTyped : LentItem → Type 0
ItemTyped i = (i.type < 256) × Bytes i.prefix × Bytes i.value

pub lent_typed : (ts ps vs bs : List ℕ) → Bytes ts → Bytes bs → All ItemTyped (lent_items ts ps vs bs)
unfolding lent_items
lent_typed [] ps vs bs ht hb = tt
lent_typed (t ∷ ts) ps vs bs ht hb = (
  (ht.0, bytes_take (get_or ps 0 0) bs hb, bytes_take (get_or vs 0 0) (drop (get_or ps 0 0) bs) (bytes_drop (get_or ps 0 0) bs hb)),
  lent_typed ts (drop 1 ps) (drop 1 vs) (drop (get_or ps 0 0 + get_or vs 0 0) bs) ht.1 (bytes_drop (get_or ps 0 0 + get_or vs 0 0) bs hb),
)

abbrev GivenValid : LentItem → Type 0
GivenValid i = ItemValid (item_given i)

pub item_valid : (i : LentItem) → ItemTyped i → item_tests i ≡ ok tt → ItemValid (item_given i)
unfolding item_tests
item_valid i h e =
    let a = need_inv _ _ _ _ _ e in
    let b = need_inv _ _ _ _ _ a.1 in
    let c = need_ok _ _ _ _ b.1 in
    go (eqb i.type 8) refl a.0 b.0 c
  where
    go : (x : Bool) → eqb i.type 8 ≡ x → not (eqb i.type 0) ≡ true → not x || leb (length i.prefix) 254 ≡ true
        → leb (length i.value) (pick x (254 - length i.prefix) 255) ≡ true → ItemValid (pick x (priv i.prefix i.value) (item i.type i.value))
    go true e z p v =
        let m : length i.prefix ≤ 254 = leb-true _ _ p in
        let n : length i.value ≤ 254 - length i.prefix = leb-true _ _ v in
        (omega arith, h.1, h.2)
    go false e z p v =
        let n : length i.value ≤ 255 = leb-true _ _ v in
        (omega (arith, eqb-false i.type 0 (not-true _ z)), h.0, eqb-false i.type 8 e, omega arith, h.2)

pub items_valid : (is : List LentItem) → All ItemTyped is → items_tests is ≡ ok tt → All GivenValid is
unfolding items_tests
items_valid [] h e = tt
items_valid (i ∷ is) h e = let a = then_inv _ _ e in (item_valid i h.0 a.0, items_valid is h.1 a.1)

given_valid : (is : List LentItem) → All GivenValid is → All ItemValid (items_given is)
unfolding items_given
given_valid [] h = tt
given_valid (i ∷ is) h = (h.0, given_valid is h.1)

chunks_valid : (ss ns : List ℕ) (is : List LentItem) → Fits (replicate (length ss) 4) ss → All GivenValid is
    → All ChunkValid (chunks_given (lent_chunks ss ns is)) × (length (chunks_given (lent_chunks ss ns is)) ≡ length ss)
unfolding lent_chunks chunks_given
chunks_valid [] ns is f h = (tt, refl)
chunks_valid (s ∷ ss) ns is f h =
    let k = chunks_valid ss (drop 1 ns) (drop (get_or ns 0 0) is) f.1 (all_drop GivenValid (get_or ns 0 0) is h) in
    (((f.0, given_valid (take (get_or ns 0 0) is) (all_take GivenValid (get_or ns 0 0) is h)), k.0), ap suc k.1)

pub chunk_words : (c : Chunk) → length (chunk_bytes c) % 4 ≡ 0
unfolding chunk_bytes
chunk_words c = simp (length-append, length_be, length-replicate) (omega arith)

chunks_words : (cs : List Chunk) → length (chunks_bytes cs) % 4 ≡ 0
unfolding chunks_bytes
chunks_words [] = refl
chunks_words (c ∷ cs) = rw length-append (omega (arith, chunk_words c, chunks_words cs))

-- ---- BYE

leaving_valid : (r : List ℕ) → length r ≤ 255 → Bytes r → LeavingValid (leaving_of r) × (length (leaving_bytes (leaving_of r)) % 4 ≡ 0)
leaving_valid [] l h = (tt, refl)
leaving_valid (b ∷ bs) l h = ((omega arith, h, bytes_zeros ((4 - (1 + length (b ∷ bs)) % 4) % 4)), simp (length-append, length-replicate) (omega arith))

-- ---- every kind

-- what is left to show of a packet whose own tests passed
record Content-given (g : Given) : Type 0 where
  content : ContentValid (content_given g)
  low : low_bits (content_given g) < 32
  words : length (content_bytes (content_given g)) % 4 ≡ 0
  padding : padding_ok (padding_given g) ≡ true

content_given_lem : (g : Given) → Typed g → own_tests g ≡ ok tt → Content-given g
unfolding own_tests content_bytes
content_given_lem (give_report r l k) t e =
    let a = need_inv _ _ _ _ _ e in
    let b = need_inv _ _ _ _ _ a.1 in
    let c = need_inv _ _ _ _ _ b.1 in
    let v = blocks_valid l.fractions l.losses l.words t.1 t.3 c.1 in
    let n : length l.fractions ≤ 31 = leb-true _ _ b.0 in
    record {
      content = (t.0, v, tt);
      low = rw (length_lent_blocks l.fractions l.losses l.words) (omega arith);
      words = simp (length-append, append-nil) (omega (arith, reporter_words r t.0, length_blocks_bytes (blocks_lent l) v));
      padding = c.0;
    }
content_given_lem (give_sdes l k) t e =
    let a = need_inv _ _ _ _ _ e in
    let b = need_inv _ _ _ _ _ a.1 in
    let c = need_inv _ _ _ _ _ b.1 in
    let is : List LentItem = lent_items l.types l.prefixes l.values l.bytes in
    let v = chunks_valid l.ssrcs l.counts is t.0 (items_valid is (lent_typed l.types l.prefixes l.values l.bytes t.1 t.2) c.1) in
    let n : length l.ssrcs ≤ 31 = leb-true _ _ b.0 in
    record { content = v.0; low = rw v.1 (omega arith); words = chunks_words _; padding = c.0 }
content_given_lem (give_bye ss r k) t e =
    let a = need_inv _ _ _ _ _ e in
    let b = need_inv _ _ _ _ _ a.1 in
    let c = need_ok _ _ _ _ b.1 in
    let v = leaving_valid r (leb-true _ _ c) t.1 in
    let n : length ss ≤ 31 = leb-true _ _ a.0 in
    record {
      content = (t.0, v.0);
      low = omega arith;
      words = rw length-append (omega (arith, v.1, length_put (replicate (length ss) 4) ss t.0, sum_replicate (length ss) 4));
      padding = b.0;
    }
content_given_lem (give_app subtype ssrc name d k) t e =
    let a = need_inv _ _ _ _ _ e in
    let b = need_inv _ _ _ _ _ a.1 in
    let c = need_inv _ _ _ _ _ b.1 in
    let f = need_ok _ _ _ _ c.1 in
    let l : length name ≤ 4 = leb-true _ _ (and_inv _ _ b.0).0 in
    let m : length d % 4 ≡ 0 = eqb-true _ _ c.0 in
    let q : subtype ≤ 31 = leb-true _ _ a.0 in
    let w : length (name_given name) ≡ 4 = simp (length-append, length-replicate) (omega arith) in
    record {
      content = (t.0, w, bytes_append name (replicate (4 - length name) 0) t.1 (bytes_zeros (4 - length name)), t.2);
      low = omega arith;
      words = simp (length-append, length_be, length-replicate) (omega arith);
      padding = f;
    }

pub given_packet_valid : (g : Given) → Typed g → tests g ≡ ok tt → Valid (packet_given g)
unfolding tests
given_packet_valid g t e =
    let a = then_inv _ _ e in
    let c = content_given_lem g t a.0 in
    let s : size_given g ≤ 262144 = leb-true _ _ (need_ok _ _ _ _ a.1) in
    let b = and_inv _ _ c.padding in
    let m : padding_given g % 4 ≡ 0 = eqb-true _ _ b.0 in
    let l = length_padding_bytes (padding_given g) in
    let n = length_layout (packet_given g) in
    record { content = c.content; low = c.low; padding = padding_valid (padding_given g) c.padding; words = rw l (omega (arith, c.words)); size = omega arith }

-- ---- a write, of whatever has a size and bytes

-- what a write that is not refused says: its size is the bytes' number, they stand first, and the rest is as it was
pub record Wrote (bs l : List ℕ) (n : ℕ) (left : List ℕ) : Type 0 where
  pub size : n ≡ length bs
  pub fits : n ≤ length l
  pub bytes : left ≡ bs ++ drop n l

pub written_ok : (size : Answer ℕ) (bs l : List ℕ) {n : ℕ} → ((k : ℕ) → size ≡ ok k → k ≡ length bs) → (written size bs l).0 ≡ ok n → Wrote bs l n (written size bs l).1
unfolding room
written_ok size bs l {n} h e =
    bind_elim _ _ e (λ k q e₁.
    let a = need_inv _ _ _ _ _ e₁ in
    let i : k ≡ n = ok_injective a.1 in
    let m : n ≡ length bs = sym i ∙ h k q in
    record { size = m; fits = subst (λ (x : ℕ). x ≤ length l) i (leb-true _ _ a.0); bytes = rw e (rw m (store_front bs l)) })

pub written_refused : (size : Answer ℕ) (bs l : List ℕ) {r : Refusal} → (written size bs l).0 ≡ refused r → (written size bs l).1 ≡ l
written_refused size bs l e = rw e

-- ---- the theorems of one write

size_is : (g : Given) (k : ℕ) → calculate_size g ≡ ok k → (tests g ≡ ok tt) × (k ≡ length (layout (packet_given g)))
unfolding calculate_size
size_is g k e = let a = then_inv _ _ e in (a.0, sym (ok_injective a.1))

room_inv : (size : Answer ℕ) (n : ℕ) {k : ℕ} → room size n ≡ ok k → size ≡ ok k
unfolding room
room_inv size n e = bind_elim _ _ e (λ k q e₁. q ∙ (need_inv _ _ _ _ _ e₁).1)

-- a write not refused lays down the layout of the packet given, which is valid
pub write_lays : (g : Given) (l : List ℕ) {n : ℕ} → Typed g → (write g l).0 ≡ ok n → Valid (packet_given g) × Wrote (layout (packet_given g)) l n (write g l).1
unfolding write
write_lays g l t e =
    (given_packet_valid g t (size_is g _ (room_inv (calculate_size g) (length l) e)).0, written_ok (calculate_size g) (layout (packet_given g)) l (λ k q. (size_is g k q).1) e)

pub write_refused : (g : Given) (l : List ℕ) {r : Refusal} → (write g l).0 ≡ refused r → (write g l).1 ≡ l
unfolding write
write_refused g l e = written_refused (calculate_size g) (layout (packet_given g)) l e

-- the same of a lone item and a lone chunk
pub item_write_lays : (i : LentItem) (l : List ℕ) {n : ℕ} → ItemTyped i → (write_item i l).0 ≡ ok n → ItemValid (item_given i) × Wrote (item_bytes (item_given i)) l n (write_item i l).1
unfolding write_item item_size
item_write_lays i l t e = (
  item_valid i t (then_inv _ _ (room_inv (item_size i) (length l) e)).0,
  written_ok (item_size i) (item_bytes (item_given i)) l (λ k q. sym (ok_injective (then_inv _ _ q).1)) e,
)

pub item_write_refused : (i : LentItem) (l : List ℕ) {r : Refusal} → (write_item i l).0 ≡ refused r → (write_item i l).1 ≡ l
unfolding write_item
item_write_refused i l e = written_refused (item_size i) (item_bytes (item_given i)) l e

module _ (ssrc : ℕ) (ts ps vs bs : List ℕ) where
  abbrev lent : LentChunk
  lent = record { ssrc = ssrc; items = lent_items ts ps vs bs }

  chunk_size_is : (k : ℕ) → chunk_size ssrc ts ps vs bs ≡ ok k → (items_tests (lent_items ts ps vs bs) ≡ ok tt) × (k ≡ length (chunk_bytes (chunk_given lent)))
  unfolding chunk_size
  chunk_size_is k e =
      let a = need_inv _ _ _ _ _ e in
      let b = then_inv _ _ a.1 in
      let c = need_inv _ _ _ _ _ b.1 in
      (b.0, sym (ok_injective c.1))

  pub chunk_write_lays : (l : List ℕ) {n : ℕ} → ssrc < 256 ^ 4 → Bytes ts → Bytes bs → (write_chunk ssrc ts ps vs bs l).0 ≡ ok n
      → ChunkValid (chunk_given lent) × Wrote (chunk_bytes (chunk_given lent)) l n (write_chunk ssrc ts ps vs bs l).1
  unfolding write_chunk
  chunk_write_lays l s t b e =
      let i = (chunk_size_is _ (room_inv (chunk_size ssrc ts ps vs bs) (length l) e)).0 in (
        (s, given_valid (lent_items ts ps vs bs) (items_valid (lent_items ts ps vs bs) (lent_typed ts ps vs bs t b) i)),
        written_ok (chunk_size ssrc ts ps vs bs) (chunk_bytes (chunk_given lent)) l (λ k q. (chunk_size_is k q).1) e,
      )

  pub chunk_write_refused : (l : List ℕ) {r : Refusal} → (write_chunk ssrc ts ps vs bs l).0 ≡ refused r → (write_chunk ssrc ts ps vs bs l).1 ≡ l
  unfolding write_chunk
  chunk_write_refused l e = written_refused (chunk_size ssrc ts ps vs bs) (chunk_bytes (chunk_given lent)) l e
