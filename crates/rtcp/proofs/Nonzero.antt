-- Every refusal of the writer's calls and of reading has a number above 0, so that 0 tells C that a call is done and that bytes are accepted.
use Rattle.rfc3550.proofs.Prelude.{ℕ, zero, suc, ◌+◌, ◌<◌, ◌≡◌, refl, Bool, true, false, List, [], ◌∷◌, arith, length, drop}
use Rattle.rfc3550.specs.Answer.{Answer, ok, refused, need, ◌>>◌, ◌>>=◌, map_ok}
use Rattle.rfc3550.specs.Loss.{Loss}
use Rattle.rfc3550.specs.Packet.{Item, item, priv, item_bytes}
use Rattle.rfc3550.specs.Read.{Kind, SR, RR, SDES, BYE, APP, UNKNOWN, stated, check_header, item_of, read_item, read_fill, read_items, read_chunk, read_chunks, read_leaving, read_report, read_content, read_as, prefix_of, read_prefix}
use Rattle.rfc3550.specs.Lookup.{lookup, lookup_with}
use Rattle.rfc3550.specs.Compound.{read_packet, read_packets, read_compound}
use Rattle.rfc3550.specs.Write.{LentItem, Given, give_report, give_sdes, give_bye, give_app, loss_tests, item_tests, items_tests, own_tests, tests}
use Rattle.rfc3550.specs.Writer.{Writer, Request, add, close, add_tests, close_tests, call}
use Rattle.rtcp.specs.Result.{number_of}
use Rattle.rtcp.proofs.Injective.{Nonzero}

test : (t : Bool) (n d e : ℕ) → 0 < n → Nonzero (need t n d e)
unfolding need
test true n d e h = tt
test false n d e h = h

then : {B : Type 0} (a : Answer (Unit {0})) (b : Answer B) → Nonzero a → Nonzero b → Nonzero (a >> b)
unfolding ◌>>◌
then (ok u) b n m = m
then (refused r) b n m = n

loss : (ls : List Loss) → Nonzero (loss_tests ls)
unfolding loss_tests
loss [] = tt
loss (l ∷ ls) = then _ _ (test _ 17 _ _ (omega arith)) (loss ls)

an_item : (i : LentItem) → Nonzero (item_tests i)
unfolding item_tests
an_item i = then _ _ (test _ 23 _ _ (omega arith)) (then _ _ (test _ 21 _ _ (omega arith)) (test _ 20 _ _ (omega arith)))

items : (is : List LentItem) → Nonzero (items_tests is)
unfolding items_tests
items [] = tt
items (i ∷ is) = then _ _ (an_item i) (items is)

own : (g : Given) → Nonzero (own_tests g)
unfolding own_tests
own (give_report r l k) = then _ _ (test _ 24 _ _ (omega arith)) (then _ _ (test _ 18 _ _ (omega arith)) (then _ _ (test _ 11 _ _ (omega arith)) (loss l.losses)))
own (give_sdes l k) = then _ _ (test _ 24 _ _ (omega arith)) (then _ _ (test _ 19 _ _ (omega arith)) (then _ _ (test _ 11 _ _ (omega arith)) (items _)))
own (give_bye ss r k) = then _ _ (test _ 15 _ _ (omega arith)) (then _ _ (test _ 11 _ _ (omega arith)) (test _ 16 _ _ (omega arith)))
own (give_app subtype ssrc name d k) =
    then _ _ (test _ 12 _ _ (omega arith)) (then _ _ (test _ 13 _ _ (omega arith)) (then _ _ (test _ 14 _ _ (omega arith)) (test _ 11 _ _ (omega arith))))

all_tests : (g : Given) → Nonzero (tests g)
unfolding tests
all_tests g = then _ _ (own g) (test _ 22 _ _ (omega arith))

pub call_nonzero : (q : Request) (w : Writer) (l : List ℕ) → Nonzero (call q w l).0
unfolding call add_tests close_tests
call_nonzero (add g) w l =
    then _ _ (test _ 26 _ _ (omega arith))
    (then _ _ (test _ 29 _ _ (omega arith))
    (then _ _ (test _ 27 _ _ (omega arith)) (then _ _ (all_tests g) (then _ _ (test _ 10 _ _ (omega arith)) (test _ 10 _ _ (omega arith))))))
call_nonzero close w l = then _ _ (test _ 26 _ _ (omega arith)) (test _ 28 _ _ (omega arith))

-- ---- reading: every refusal has a number above 0 too

pub map_nonzero : {A B : Type 0} (f : A → B) (a : Answer A) → Nonzero a → Nonzero (map_ok f a)
unfolding map_ok
map_nonzero f (ok x) n = n
map_nonzero f (refused r) n = n

bind : {A B : Type 0} (a : Answer A) (f : A → Answer B) → Nonzero a → ((x : A) → Nonzero (f x)) → Nonzero (a >>= f)
unfolding ◌>>=◌
bind (ok x) f n m = m x
bind (refused r) f n m = n

header : (least : ℕ) (wanted : Bool) (names : ℕ × ℕ) (s : List ℕ) → Nonzero (check_header least wanted names s)
unfolding check_header
header least wanted names s =
    then _ _ (test _ 2 _ _ (omega arith))
    (then _ _ (test _ 1 _ _ (omega arith))
    (then _ _ (test _ 6 _ _ (omega arith)) (then _ _ (test _ 2 _ _ (omega arith)) (then _ _ (test _ 3 _ _ (omega arith)) (then _ _ (test _ 4 _ _ (omega arith)) tt)))))

item_of_lem : (b : Bool) (t : ℕ) (v : List ℕ) → Nonzero (item_of b t v)
unfolding item_of
item_of_lem false t v = tt
item_of_lem true t [] = omega arith
item_of_lem true t (p ∷ v) = then _ _ (test _ 5 _ _ (omega arith)) tt

one_item : (s : List ℕ) → Nonzero (read_item s)
unfolding read_item
one_item [] = omega arith
one_item (t ∷ []) = omega arith
one_item (t ∷ len ∷ s) = then _ _ (test _ 2 _ _ (omega arith)) (bind _ _ (item_of_lem _ t _) (λ i. tt))

prefix_of_lem : (i : Item) → Nonzero (prefix_of i)
prefix_of_lem (item t v) = omega arith
prefix_of_lem (priv p v) = tt

pub prefix_nonzero : (s : List ℕ) → Nonzero (read_prefix s)
unfolding read_prefix
prefix_nonzero s = bind _ _ (one_item s) (λ x. prefix_of_lem x.0)

zeros : (k at : ℕ) (s : List ℕ) → Nonzero (read_fill k at s)
unfolding read_fill
zeros zero at s = tt
zeros (suc k) at [] = omega arith
zeros (suc k) at (zero ∷ s) = zeros k (at + 1) s
zeros (suc k) at (suc b ∷ s) = omega arith

more_items : (turns at : ℕ) (s : List ℕ) → Nonzero (read_items turns at s)
unfolding read_items
more_items zero at s = omega arith
more_items (suc turns) at [] = omega arith
more_items (suc turns) at (zero ∷ s) = bind _ _ (zeros _ at _) (λ r. tt)
more_items (suc turns) at (suc t ∷ s) = bind _ _ (one_item (suc t ∷ s)) (λ x. bind _ _ (more_items turns (at + length (item_bytes x.0)) x.1) (λ y. tt))

pub chunk_nonzero : (s : List ℕ) → Nonzero (read_chunk s)
unfolding read_chunk
chunk_nonzero s = then _ _ (test _ 2 _ _ (omega arith)) (bind _ _ (more_items _ 4 _) (λ x. tt))

chunks : (n body : ℕ) (s : List ℕ) → Nonzero (read_chunks n body s)
unfolding read_chunks
chunks zero body [] = tt
chunks zero body (b ∷ s) = omega arith
chunks (suc n) body s = bind _ _ (chunk_nonzero s) (λ x. bind _ _ (chunks n body x.1) (λ cs. tt))

leaves : (at body : ℕ) (s : List ℕ) → Nonzero (read_leaving at body s)
unfolding read_leaving
leaves at body [] = tt
leaves at body (len ∷ s) = then _ _ (test _ 2 _ _ (omega arith)) tt

content : (k : Kind) (n t : ℕ) (s : List ℕ) → Nonzero (read_content k n t s)
unfolding read_content read_report
content SR n t s = then _ _ (test _ 2 _ _ (omega arith)) tt
content RR n t s = then _ _ (test _ 2 _ _ (omega arith)) tt
content SDES n t s = bind _ _ (chunks n _ s) (λ cs. tt)
content BYE n t s = then _ _ (test _ 2 _ _ (omega arith)) (bind _ _ (leaves _ _ _) (λ l. tt))
content APP n t s = tt
content UNKNOWN n t s = tt

pub read_nonzero : (k : Kind) (s : List ℕ) → Nonzero (read_as k s)
unfolding read_as
read_nonzero k s = bind _ _ (header _ _ _ s) (λ body. bind _ _ (content k _ _ _) (λ c. tt))

pub lookup_nonzero : (visits : ℕ) (s ssrcs l : List ℕ) → Nonzero (lookup_with visits s ssrcs l).0
unfolding lookup lookup_with
lookup_nonzero visits s ssrcs l = map_nonzero _ _ (then _ _ (test _ 31 _ _ (omega arith)) (bind _ _ (read_nonzero SDES s) (λ p. tt)))

packet : (first : Bool) (s : List ℕ) → Nonzero (read_packet first s)
unfolding read_packet
packet first s =
    then _ _ (test _ 2 _ _ (omega arith))
    (then _ _ (test _ 1 _ _ (omega arith))
    (then _ _ (test _ 2 _ _ (omega arith)) (then _ _ (test _ 9 _ _ (omega arith)) (then _ _ (test _ 7 _ _ (omega arith)) (read_nonzero _ _)))))

packets : (turns : ℕ) (s : List ℕ) → Nonzero (read_packets turns s)
unfolding read_packets
packets zero s = tt
packets (suc turns) [] = tt
packets (suc turns) (b ∷ s) = bind _ _ (packet false (b ∷ s)) (λ p. bind _ _ (packets turns (drop (stated (b ∷ s)) (b ∷ s))) (λ ps. tt))

pub compound_nonzero : (s : List ℕ) → Nonzero (read_compound s)
unfolding read_compound
compound_nonzero s = bind _ _ (packet true s) (λ p. bind _ _ (packets _ _) (λ ps. then _ _ (test _ 8 _ _ (omega arith)) tt))

-- so number 0 says that what was asked for is accepted
pub accepted : {A : Type 0} (a : Answer A) → Nonzero a → number_of a ≡ 0 → (x : A) × (a ≡ ok x)
accepted (ok x) n e = (x, refl)
accepted (refused r) n e = absurd (omega arith)

pub opened_number : {A B C : Type 0} (f : B → C) (g : A → B) (a : Answer A) → number_of (map_ok f (a >>= λ (x : A). ok (g x))) ≡ number_of a
unfolding map_ok ◌>>=◌
opened_number f g (ok x) = refl
opened_number f g (refused r) = refl
