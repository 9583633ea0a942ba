-- Document 01, "What demand 3 compares", The book: a text of its own on purpose. It shares no test with the writer, and is fed a call's
-- arguments and the buffer's length, never an answer. An order is a list of faults, and the first that holds is the answer.
use Rattle.std.specs.Prelude.{ℕ, ◌+◌, ◌-◌, ◌*◌, ◌%◌, Bool, true, false, ◌&&◌, ◌||◌, not, List, [], ◌∷◌, ◌++◌, length, ltb, eqb}
use Rattle.rfc3550.specs.Answer.{Answer, ok, refuse, after, capped, pick}
use Rattle.rfc3550.specs.Bytes.{sum}
use Rattle.rfc3550.specs.Loss.{Loss, loss_over, loss_shown, loss_most}
use Rattle.rfc3550.specs.Packet.{Packet, layout, some, has_cname}
use Rattle.rfc3550.specs.Write.{BlockLists, Lists, LentItem, lent_items, Given, give_report, give_sdes, give_bye, give_app, packet_given}
use Rattle.rfc3550.specs.Writer.{Request, add, close}

pub record Fault : Type 0 where
  pub holds : Bool
  pub number : ℕ
  pub first : ℕ
  pub second : ℕ

abbrev pub fault : Bool → ℕ → ℕ → ℕ → Fault
fault holds number first second = record { holds = holds; number = number; first = first; second = second }

unfoldable pub first_fault : List Fault → Answer (Unit {0})
first_fault [] = ok tt
first_fault (f ∷ fs) = pick f.holds (refuse f.number f.first f.second) (first_fault fs)

-- ---- a packet's own order

-- padding is 0 or a multiple of 4 up to 252
abbrev pub bad_padding : ℕ → Bool
bad_padding k = not (eqb (k % 4) 0) || ltb 252 k

-- a fraction lacks its loss or its five words, or there are more of these
abbrev pub blocks_disagree : BlockLists → Bool
blocks_disagree l = not (eqb (length l.fractions) (length l.losses)) || not (eqb (length l.fractions * 5) (length l.words))

abbrev pub loss_faults : List Loss → List Fault
loss_faults [] = []
loss_faults (x ∷ xs) = fault (loss_over x) 17 (loss_shown x) loss_most ∷ loss_faults xs

-- PRIV: a prefix of at most 254 bytes, with the value at most 254; other types a value of at most 255
abbrev pub item_faults : LentItem → List Fault
item_faults i =
    fault (eqb i.type 0) 23 0 0
    ∷ fault (eqb i.type 8 && ltb 254 (length i.prefix)) 21 (length i.prefix) 254
    ∷ fault (eqb i.type 8 && ltb 254 (length i.prefix + length i.value)) 20 (length i.value) (254 - length i.prefix)
    ∷ fault (not (eqb i.type 8) && ltb 255 (length i.value)) 20 (length i.value) 255
    ∷ []

abbrev pub items_faults : List LentItem → List Fault
items_faults [] = []
items_faults (i ∷ is) = item_faults i ++ items_faults is

-- paired lists differ in length, the counts don't sum to the items, or the lengths to the bytes
abbrev pub disagree : Lists → Bool
disagree l =
    not (eqb (length l.counts) (length l.ssrcs))
    || not (eqb (length l.prefixes) (length l.types))
    || not (eqb (length l.values) (length l.types))
    || not (eqb (sum l.counts) (length l.types))
    || not (eqb (sum l.prefixes + sum l.values) (length l.bytes))

abbrev pub not_ascii : List ℕ → Bool
not_ascii [] = false
not_ascii (b ∷ bs) = ltb 127 b || not_ascii bs

abbrev pub own_faults : Given → List Fault
own_faults (give_report r l k) =
    fault (blocks_disagree l) 24 0 0
    ∷ fault (ltb 31 (length l.fractions)) 18 (length l.fractions) 31
    ∷ fault (bad_padding k) 11 k 0
    ∷ loss_faults l.losses
own_faults (give_sdes l k) =
    fault (disagree l) 24 0 0
    ∷ fault (ltb 31 (length l.ssrcs)) 19 (length l.ssrcs) 31
    ∷ fault (bad_padding k) 11 k 0
    ∷ items_faults (lent_items l.types l.prefixes l.values l.bytes)
own_faults (give_bye ss r k) = fault (ltb 31 (length ss)) 15 (length ss) 31 ∷ fault (bad_padding k) 11 k 0 ∷ fault (ltb 255 (length r)) 16 (length r) 255 ∷ []
own_faults (give_app subtype ssrc name d k) =
    fault (ltb 31 subtype) 12 subtype 31
    ∷ fault (ltb 4 (length name) || not_ascii name) 13 0 0
    ∷ fault (not (eqb (length d % 4) 0)) 14 (length d) 0
    ∷ fault (bad_padding k) 11 k 0
    ∷ []

-- ---- the book: a list of packets, at first empty, and whether it is closed

pub record Book : Type 0 where
  pub packets : List Packet
  pub closed : Bool

abbrev pub empty : Book
empty = record { packets = []; closed = false }

-- its packets' lengths summed
abbrev pub so_far : List Packet → ℕ
so_far [] = 0
so_far (p ∷ ps) = length (layout p) + so_far ps

abbrev pub is_empty : List Packet → Bool
is_empty [] = true
is_empty (p ∷ ps) = false

-- its last packet is padded
abbrev pub last_padded : List Packet → Bool
last_padded [] = false
last_padded (p ∷ []) = ltb 0 (length p.padding)
last_padded (p ∷ q ∷ ps) = last_padded (q ∷ ps)

-- 10 names the length so far if the buffer is shorter than that, else the length with the packet
abbrev pub room_faults : ℕ → ℕ → ℕ → List Fault
room_faults before size n = fault (ltb n before) 10 (capped before) 0 ∷ fault (ltb n (before + size)) 10 (capped (before + size)) 0 ∷ []

-- a report is given
abbrev pub gives_report : Given → Bool
gives_report (give_report r l k) = true
gives_report (give_sdes l k) = false
gives_report (give_bye ss r k) = false
gives_report (give_app subtype ssrc name d k) = false

abbrev pub faults : Request → ℕ → Book → List Fault
faults (add g) n b =
    fault b.closed 26 0 0
    ∷ fault (last_padded b.packets) 29 0 0
    ∷ fault (is_empty b.packets && not (gives_report g)) 27 0 0
    ∷ ((own_faults g ++ (fault (ltb 262144 (length (layout (packet_given g)))) 22 0 0 ∷ [])) ++ room_faults (so_far b.packets) (length (layout (packet_given g))) n)
faults close n b = fault b.closed 26 0 0 ∷ fault (not (some has_cname b.packets)) 28 0 0 ∷ []

-- an add puts the packet last, a close closes it
abbrev pub listed : Request → Book → Book
listed (add g) b = record { packets = b.packets ++ (packet_given g ∷ []); closed = b.closed }
listed close b = record { packets = b.packets; closed = true }

-- the answer to a call with a buffer of n bytes, and the book after it: a refusal leaves it as it was
unfoldable pub turn : Request → ℕ → Book → Answer (Unit {0}) × Book
turn r n b = (first_fault (faults r n b), after (first_fault (faults r n b)) (listed r b) b)
