-- What is promised to the buyer, each claim stated whole. Demand 3 comes last.
use Rattle.rfc3550.proofs.Prelude.{ℕ, ◌/◌, ◌^◌, ◌<◌, ◌≤◌, ◌≡◌, refl, ◌↔◌, ◌⊎◌, Bool, true, List, [], map, length, take, drop, lt-ltb}
use Rattle.rfc3550.specs.Answer.{Refusal, ok, refused, refuse, map_ok}
use Rattle.rfc3550.specs.Bytes.{Bytes}
use Rattle.rfc3550.specs.Loss.{Loss, LossFits, loss_bits, loss_of, loss_in}
use Rattle.rfc3550.specs.Packet.{Block, Reporter, Chunk, Packet, layout, layouts, chunks_of, All, BlockValid, Valid, Compound}
use Rattle.rfc3550.specs.Read.{Kind, SDES, kind_for, nth, read_chunk, read_as}
use Rattle.rfc3550.specs.Compound.{read_compound}
use Rattle.rfc3550.specs.Utf8.{CodePoint, encodes, Text, is_utf8}
use Rattle.rfc3550.specs.Walk.{open_walk, step, SdesWalk, open_sdes, sdes_step, open_items, item_step, gave, walked}
use Rattle.rfc3550.specs.Lookup.{none, at, first, names, found_in, lookup, lookup_with, decoded}
use Rattle.rfc3550.specs.Reception.{Reception, new_reception, starts, verdict, update, block_of, in_probation, made, report_block}
use Rattle.rfc3550.specs.History.{Happening, HappeningTyped, reception_after_all, outcomes, no_start, packets_in, moved_in, received_since, block_since}
use Rattle.rfc3550.specs.Write.{lists_of, Given, give_report, Typed, packet_given, write}
use Rattle.rfc3550.specs.Writer.{Writer, fresh, Request, add, close, call}
use Rattle.rfc3550.specs.Book.{empty}
use Rattle.rfc3550.specs.Calls.{Event, Made, answers, book_input, booked, compounds}
use Rattle.rfc3550.proofs.Losses as Losses
use Rattle.rfc3550.proofs.Packets
use Rattle.rfc3550.proofs.Compounds as C
use Rattle.rfc3550.proofs.Texts as Texts
use Rattle.rfc3550.proofs.Walks as W
use Rattle.rfc3550.proofs.Lookups.{Passes, Fails}
use Rattle.rfc3550.proofs.Lookups as Lookups
use Rattle.rfc3550.proofs.Answers.{never_refused}
use Rattle.rfc3550.proofs.Receptions.{Gave}
use Rattle.rfc3550.proofs.Receptions as Receptions
use Rattle.rfc3550.proofs.Histories.{LastStart}
use Rattle.rfc3550.proofs.Histories as Histories
use Rattle.rfc3550.proofs.Writes.{Wrote}
use Rattle.rfc3550.proofs.Writes as Writes
use Rattle.rfc3550.proofs.Calls as Calls

-- ---- demand 1: a refused write changes no byte, and a refused call changes no state

pub refused_write : (g : Given) (l : List ℕ) (r : Refusal) → (write g l).0 ≡ refused r → (write g l).1 ≡ l
refused_write g l r e = Writes.write_refused g l e

pub refused_call : (q : Request) (w : Writer) (l : List ℕ) (r : Refusal) → (call q w l).0 ≡ refused r → ((call q w l).1 ≡ w) × ((call q w l).2 ≡ l)
unfolding call
refused_call (add g) w l r e = rw e (refl, refl)
refused_call close w l r e = rw e (refl, refl)

-- ---- demand 2: the layouts fix every field read and every byte written

-- the reading gives p of bytes exactly when p is valid, of that kind, and laid out as those bytes
pub reading : (k : Kind) (s : List ℕ) (p : Packet) → Bytes s → (read_as k s ≡ ok p) ↔ (Valid p × (kind_for p.content ≡ k) × (layout p ≡ s))
reading k s p h = Packets.packet_iff k s p h

pub one_packet : (p q : Packet) → Valid p → Valid q → layout p ≡ layout q → p ≡ q
one_packet p q v w e = Packets.layout_injective p q v w e

-- a loss, from −8,388,608 to 8,388,607, is its value modulo 16,777,216 in 24 bits: any 24 bits are read as such a loss with these bits, such a
-- loss is what its bits are read as, and the writer's test lets such losses through and no other (document 02, order 1)
pub loss_read : (n : ℕ) → n < 16777216 → LossFits (loss_of n) × (loss_bits (loss_of n) ≡ n)
loss_read n h = (Losses.loss_of_fits n h, Losses.loss_bits_loss_of n h)

pub loss_written : (l : Loss) → LossFits l → (loss_bits l < 16777216) × (loss_of (loss_bits l) ≡ l)
loss_written l h = (Losses.loss_bits_lt l, Losses.loss_of_loss_bits l h)

pub loss_tested : (l : Loss) → (loss_in l ≡ true) ↔ LossFits l
loss_tested l = (Losses.loss_in_fits l, Losses.fits_loss_in l)

-- a write not refused lays down the layout of the packet given, its size is the bytes' number, and all else in the buffer is as it was
pub writing : (g : Given) (l : List ℕ) (n : ℕ) → Typed g → (write g l).0 ≡ ok n → Valid (packet_given g) × Wrote (layout (packet_given g)) l n (write g l).1
writing g l n t e = Writes.write_lays g l t e

-- and it is read back
pub written_reads_back : (g : Given) (l : List ℕ) (n : ℕ) → Typed g → (write g l).0 ≡ ok n
    → read_as (kind_for (packet_given g).content) (layout (packet_given g)) ≡ ok (packet_given g)
written_reads_back g l n t e = Packets.packet_complete (packet_given g) (Writes.write_lays g l t e).0

-- ---- document 02, order 2: for each SSRC of a list the first chunk with that SSRC and a CNAME in it, or none

pub looked_up : (cs : List Chunk) (ssrcs : List ℕ) (i : ℕ) → nth i (found_in cs ssrcs) ≡ map_ok (λ (ssrc : ℕ). first (names ssrc) cs) (nth i ssrcs)
unfolding found_in
looked_up cs ssrcs i = Lookups.nth_map _ ssrcs i

-- the first: it passes, and none before it does; none: no chunk passes
pub first_found : {A : Type 0} (test : A → Bool) (xs : List A) (i : ℕ) → (first test xs ≡ at i) ↔ (Passes test xs i × ((j : ℕ) → j < i → Fails test xs j))
first_found test xs i = (Lookups.found test xs i, λ p. Lookups.found_only test xs i p.0 p.1)

pub none_found : {A : Type 0} (test : A → Bool) (xs : List A) → (first test xs ≡ none) ↔ ((i : ℕ) → Fails test xs i)
none_found test xs = (Lookups.unfound test xs, Lookups.unfound_only test xs)

-- 31 whatever the packet; else the packet's own steps
pub lookup_short : (room : ℕ) (s ssrcs : List ℕ) → room < length ssrcs → lookup room s ssrcs ≡ refuse 31 0 0
lookup_short room s ssrcs h = Lookups.lookup_short room s ssrcs h

pub lookup_packet : (room : ℕ) (s ssrcs : List ℕ) → length ssrcs ≤ room → lookup room s ssrcs ≡ map_ok (λ (p : Packet). found_in (chunks_of p.content) ssrcs) (read_as SDES s)
lookup_packet room s ssrcs h = Lookups.lookup_packet room s ssrcs h

-- a refusal writes no answer, entries past the list stay, and the answers can be told from the buffer
pub refused_lookup : (visits : ℕ) (s ssrcs l : List ℕ) (r : Refusal) → (lookup_with visits s ssrcs l).0 ≡ refused r → (lookup_with visits s ssrcs l).1 ≡ l
refused_lookup visits s ssrcs l r e = Lookups.lookup_refused visits s ssrcs l r e

pub entries_past : (visits : ℕ) (s ssrcs l : List ℕ) → drop (length ssrcs) (lookup_with visits s ssrcs l).1 ≡ drop (length ssrcs) l
entries_past visits s ssrcs l = Lookups.lookup_stays visits s ssrcs l

pub answers_told : (visits : ℕ) (s ssrcs l : List ℕ) (n : ℕ) → Bytes s → (lookup_with visits s ssrcs l).0 ≡ ok n
    → (p : Packet) × (read_as SDES s ≡ ok p) × (n ≡ visits) × (map decoded (take (length ssrcs) (lookup_with visits s ssrcs l).1) ≡ found_in (chunks_of p.content) ssrcs)
answers_told visits s ssrcs l n h e = Lookups.lookup_told visits s ssrcs l h e

-- ---- document 02, order 3: reception figures

-- a source in probation gets no block, is said to be so, and stays as it was
pub probation_said : (s : Reception) (ssrc lsr dlsr : ℕ) → 0 < s.probation → report_block s ssrc lsr dlsr ≡ (in_probation, s)
unfolding report_block
probation_said s ssrc lsr dlsr h = rw (lt-ltb 0 s.probation h)

-- every history from the first packet on is in probation and has no start, or has a last start
pub last_start : (seq : ℕ) (es : List Happening)
    → ((0 < (reception_after_all (new_reception seq) es).probation) × (no_start (outcomes (new_reception seq) es) ≡ true)) ⊎ LastStart (new_reception seq) es
last_start seq es = Histories.history seq es

-- since a start, whatever the state before it, fewer than 2^31 packets came and the sequence moved by fewer than 2^31: then received is the number of
-- packets that A.1 accepts from the starting one on, and the block has the figures of A.3 over exact integers
pub figures : (s : Reception) (seq timestamp arrival : ℕ) → seq < 65536 → verdict s seq ≡ starts → (es : List Happening) → All HappeningTyped es
    → no_start (outcomes (update s seq timestamp arrival).0 es) ≡ true
    → packets_in (outcomes (update s seq timestamp arrival).0 es) < 2147483648 → moved_in (outcomes (update s seq timestamp arrival).0 es) < 2147483648
    → (ssrc lsr dlsr : ℕ)
    → ((reception_after_all (update s seq timestamp arrival).0 es).received ≡ received_since (outcomes (update s seq timestamp arrival).0 es))
    × ((report_block (reception_after_all (update s seq timestamp arrival).0 es) ssrc lsr dlsr).0
    ≡ made (block_since seq (outcomes (update s seq timestamp arrival).0 es) ((reception_after_all (update s seq timestamp arrival).0 es).jitter / 16) ssrc lsr dlsr))
figures s seq timestamp arrival h e es t z few near ssrc lsr dlsr = Histories.figures s seq timestamp arrival h e es t z few near ssrc lsr dlsr

-- with no supposition: a report of blocks that any states gave is never refused by 17, alone or by the compound writer, and each block is valid
pub blocks_written : (r : Reporter) (bs : List Block) (k : ℕ) → All Gave bs → (l : List ℕ) (first second : ℕ) → (write (give_report r (lists_of bs) k) l).0 ≡ refuse 17 first second → ⊥
blocks_written r bs k h l first second e = never_refused 17 _ (Receptions.write_never r bs k h l) first second e

pub blocks_added : (r : Reporter) (bs : List Block) (k : ℕ) → All Gave bs → (w : Writer) (l : List ℕ) (first second : ℕ) → (call (add (give_report r (lists_of bs) k)) w l).0 ≡ refuse 17 first second → ⊥
blocks_added r bs k h w l first second e = never_refused 17 _ (Receptions.call_never r bs k h w l) first second e

pub block_valid : (s : Reception) (ssrc lsr dlsr : ℕ) → s.jitter < 256 ^ 4 → ssrc < 256 ^ 4 → lsr < 256 ^ 4 → dlsr < 256 ^ 4 → BlockValid (block_of s ssrc lsr dlsr)
block_valid s ssrc lsr dlsr j a b c = Receptions.block_valid s ssrc lsr dlsr j a b c

-- ---- document 02, order 4: the verdict is yes exactly where the bytes are some sequence of code points encoded by RFC 3629, and no two sequences have
-- the same bytes. What is accepted does not hang on it: `reading`, `accepting` and all of demand 3 are stated without it

pub utf8_text : (bs : List ℕ) → (is_utf8 bs ≡ true) ↔ Text bs
utf8_text bs = Texts.utf8_text bs

pub one_text : (cs ds : List ℕ) → All CodePoint cs → All CodePoint ds → encodes cs ≡ encodes ds → cs ≡ ds
one_text cs ds v w e = Texts.one_text cs ds v w e

-- ---- demand 3: the compound reader accepts exactly the datagrams that some list of packets has, and no other list has them

pub accepting : (s : List ℕ) (ps : List Packet) → Bytes s → (read_compound s ≡ ok ps) ↔ (Compound ps × (layouts ps ≡ s))
accepting s ps h = C.compound_iff s ps h

-- the other list need not meet the rules
pub one_list : (ps qs : List Packet) → All Valid ps → All Valid qs → layouts ps ≡ layouts qs → ps ≡ qs
one_list ps qs v w e = C.layouts_injective ps qs v w e

-- for every number of steps from a walk just opened, step i gives packet i, and 25 once all are given
pub walking : (s : List ℕ) (ps : List Packet) → Bytes s → read_compound s ≡ ok ps
    → (open_walk s ≡ ok 0) × ((i : ℕ) → gave (step s (walked (step s) 0 i)) ≡ nth i ps)
walking s ps h e = W.walk_gives s ps h e

-- so with an SDES packet's chunks, and with a chunk's items
pub walking_chunks : (s : List ℕ) (p : Packet) → Bytes s → read_as SDES s ≡ ok p
    → (w : SdesWalk) × (open_sdes s ≡ ok w) × ((i : ℕ) → gave (sdes_step s (walked (sdes_step s) w i)) ≡ nth i (chunks_of p.content))
walking_chunks s p h e = W.sdes_walk_gives s p h e

pub walking_items : (s : List ℕ) (x : Chunk × List ℕ) → Bytes s → read_chunk s ≡ ok x
    → (open_items s ≡ ok 4) × ((i : ℕ) → gave (item_step s (walked (item_step s) 4 i)) ≡ nth i x.0.items)
walking_items s x h e = W.item_walk_gives s x h e

-- for every list of the writer's calls from a fresh writer, refused ones included: each answer is the book's, after it the datagram so far is
-- the book's packets laid end to end, and once closed it is accepted and read as exactly these
pub calls : (es : List (Event compounds)) → Made compounds es fresh [] → answers compounds es [] ≡ booked compounds (map (book_input compounds) es) empty
calls es m = Calls.demand3 es m
