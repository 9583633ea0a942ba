-- The book's text and the writer's say the same of a packet's own order.
use Rattle.rfc3550.proofs.Prelude.{ℕ, ◌+◌, ◌-◌, ◌*◌, ◌%◌, ◌≤◌, ◌≡◌, refl, sym, ◌∙◌, Bool, true, false, ◌&&◌, ◌||◌, not, List, [], ◌∷◌, ◌++◌, arith, length, leb, ltb, eqb, le-leb, lt-leb, ltb-true, ltb-false, eqb-true, eqb-false, eq-eqb, ne_eqb}
use Rattle.rfc3550.specs.Answer.{Answer, ok, refuse, need, ◌>>◌, pick}
use Rattle.rfc3550.specs.Bytes.{sum}
use Rattle.rfc3550.specs.Loss.{Loss, loss_in, loss_over, loss_shown, loss_most}
use Rattle.rfc3550.specs.Packet.{layout}
use Rattle.rfc3550.specs.Write.{BlockLists, Lists, LentItem, lent_items, Given, give_report, give_sdes, give_bye, give_app, packet_given, padding_ok, blocks_agree, loss_tests, item_tests, items_tests, lists_agree, ascii, own_tests, tests}
use Rattle.rfc3550.specs.Book.{Fault, fault, first_fault, bad_padding, blocks_disagree, loss_faults, item_faults, items_faults, disagree, not_ascii, own_faults}
use Rattle.rfc3550.proofs.Answers.{not_not, leb_ltb}
use Rattle.rfc3550.proofs.Losses.{loss_in_loss_over}

-- ---- tests

eqb_comm : (a b : ℕ) → eqb a b ≡ eqb b a
eqb_comm a b = go (eqb a b) refl
  where
    go : (x : Bool) → eqb a b ≡ x → x ≡ eqb b a
    go true e = sym (eq-eqb b a (sym (eqb-true a b e)))
    go false e = sym (ne_eqb b a (λ q. eqb-false a b e (sym q)))

and_or : (a b c d : Bool) → a ≡ not c → b ≡ not d → a && b ≡ not (c || d)
and_or a b true d p q = rw p
and_or a b false d p q = rw p q

pub or_and : (a b : Bool) → not a || b ≡ not (a && not b)
or_and true b = not_not b
or_and false b = refl

agree_law : (a b c d e : Bool) → a && b && (c && d && e) ≡ not (not a || not c || not d || not b || not e)
agree_law false b c d e = refl
agree_law true false false d e = refl
agree_law true false true false e = refl
agree_law true false true true e = refl
agree_law true true false d e = refl
agree_law true true true false e = refl
agree_law true true true true false = refl
agree_law true true true true true = refl

-- ---- an order of needs is a list of faults

-- a need is a fault of the negated test, with whatever follows
pub need_first : (t c : Bool) (k d e : ℕ) (fs : List Fault) (r : Answer (Unit {0})) → t ≡ not c → r ≡ first_fault fs → (need t k d e >> r) ≡ first_fault (fault c k d e ∷ fs)
unfolding need ◌>>◌ first_fault
need_first t true k d e fs r p q = rw p
need_first t false k d e fs r p q = rw p q

pub need_last : (t c : Bool) (k d e : ℕ) → t ≡ not c → need t k d e ≡ first_fault (fault c k d e ∷ [])
unfolding need first_fault
need_last t true k d e p = rw p
need_last t false k d e p = rw p

first_append : (fs gs : List Fault) → first_fault (fs ++ gs) ≡ (first_fault fs >> first_fault gs)
unfolding first_fault ◌>>◌
first_append [] gs = refl
first_append (f ∷ fs) gs = go f.holds (first_append fs gs)
  where
    go : (h : Bool) → first_fault (fs ++ gs) ≡ (first_fault fs >> first_fault gs)
        → pick h (refuse f.number f.first f.second) (first_fault (fs ++ gs)) ≡ (pick h (refuse f.number f.first f.second) (first_fault fs) >> first_fault gs)
    go true e = refl
    go false e = e

-- one order after another
pub then_first : (m n : Answer (Unit {0})) (fs gs : List Fault) → m ≡ first_fault fs → n ≡ first_fault gs → (m >> n) ≡ first_fault (fs ++ gs)
then_first m n fs gs p q = rw (p, q) (sym (first_append fs gs))

first_nil : ok tt ≡ first_fault []
unfolding first_fault
first_nil = refl

-- ---- a packet's own order

padding_is : (k : ℕ) → padding_ok k ≡ not (bad_padding k)
padding_is k = and_or (eqb (k % 4) 0) (leb k 252) (not (eqb (k % 4) 0)) (ltb 252 k) (not_not _) (leb_ltb k 252)

losses_first : (xs : List Loss) → loss_tests xs ≡ first_fault (loss_faults xs)
unfolding loss_tests
losses_first [] = first_nil
losses_first (x ∷ xs) = need_first (loss_in x) (loss_over x) 17 (loss_shown x) loss_most (loss_faults xs) (loss_tests xs) (loss_in_loss_over x) (losses_first xs)

same_test : (a b c d : ℕ) → a ≡ d → b ≡ c → eqb a b ≡ not (not (eqb c d))
same_test a b c d p q = rw (p, q) (eqb_comm d c ∙ not_not (eqb c d))

blocks_agree_is : (l : BlockLists) → blocks_agree l ≡ not (blocks_disagree l)
blocks_agree_is l =
    and_or _ _ (not (eqb (length l.fractions) (length l.losses))) (not (eqb (length l.fractions * 5) (length l.words)))
    (same_test (length l.losses) (length l.fractions) _ _ refl refl)
    (same_test (length l.words) (5 * length l.fractions) _ _ refl (omega arith))

-- prefix and value of PRIV: once the prefix fits, the two texts measure the value alike
priv_value : (p v : ℕ) → p ≤ 254 → leb v (254 - p) ≡ not (ltb 254 (p + v))
priv_value p v h = go (ltb 254 (p + v)) refl
  where
    go : (x : Bool) → ltb 254 (p + v) ≡ x → leb v (254 - p) ≡ not x
    go false e = le-leb v (254 - p) (omega (arith, ltb-false 254 (p + v) e))
    go true e = lt-leb v (254 - p) (omega (arith, ltb-true 254 (p + v) e))

priv_first : (p v : ℕ) (y : Bool) → ltb 254 p ≡ y
    → (need (not y) 21 p 254 >> need (leb v (254 - p)) 20 v (254 - p)) ≡ first_fault (fault y 21 p 254 ∷ fault (ltb 254 (p + v)) 20 v (254 - p) ∷ fault false 20 v 255 ∷ [])
unfolding need ◌>>◌ first_fault
priv_first p v true e = refl
priv_first p v false e = rw (priv_value p v (ltb-false 254 p e)) (go (ltb 254 (p + v)))
  where
    go : (x : Bool) → need (not x) 20 v (254 - p) ≡ first_fault (fault x 20 v (254 - p) ∷ fault false 20 v 255 ∷ [])
    go true = refl
    go false = refl

value_first : (p v : ℕ) (x : Bool)
    → (need (not x || leb p 254) 21 p 254 >> need (leb v (pick x (254 - p) 255)) 20 v (pick x (254 - p) 255))
    ≡ first_fault (fault (x && ltb 254 p) 21 p 254 ∷ fault (x && ltb 254 (p + v)) 20 v (254 - p) ∷ fault (not x && ltb 255 v) 20 v 255 ∷ [])
unfolding need ◌>>◌ first_fault
value_first p v true = rw (leb_ltb p 254) (priv_first p v (ltb 254 p) refl)
value_first p v false = need_last (leb v 255) (ltb 255 v) 20 v 255 (leb_ltb v 255)

item_first_lem : (i : LentItem) → item_tests i ≡ first_fault (item_faults i)
unfolding item_tests
item_first_lem i = need_first (not (eqb i.type 0)) (eqb i.type 0) 23 0 0 _ _ refl (value_first (length i.prefix) (length i.value) (eqb i.type 8))

pub items_first : (is : List LentItem) → items_tests is ≡ first_fault (items_faults is)
unfolding items_tests
items_first [] = first_nil
items_first (i ∷ is) = then_first (item_tests i) (items_tests is) (item_faults i) (items_faults is) (item_first_lem i) (items_first is)

agree_is : (l : Lists) → lists_agree l ≡ not (disagree l)
agree_is l =
    rw (eqb_comm (length l.counts) (length l.ssrcs), eqb_comm (length l.prefixes) (length l.types), eqb_comm (length l.values) (length l.types))
    (agree_law (eqb (length l.ssrcs) (length l.counts)) (eqb (sum l.counts) (length l.types)) (eqb (length l.types) (length l.prefixes)) (eqb (length l.types) (length l.values)) (eqb (sum l.prefixes + sum l.values) (length l.bytes)))

ascii_is : (name : List ℕ) → ascii name ≡ not (not_ascii name)
ascii_is [] = refl
ascii_is (b ∷ bs) = and_or (leb b 127) (ascii bs) (ltb 127 b) (not_ascii bs) (leb_ltb b 127) (ascii_is bs)

own_first : (g : Given) → own_tests g ≡ first_fault (own_faults g)
unfolding own_tests
own_first (give_report r l k) =
    need_first _ (blocks_disagree l) 24 0 0 _ _ (blocks_agree_is l)
    (need_first _ (ltb 31 (length l.fractions)) 18 (length l.fractions) 31 _ _ (leb_ltb (length l.fractions) 31)
    (need_first _ (bad_padding k) 11 k 0 _ _ (padding_is k) (losses_first l.losses)))
own_first (give_sdes l k) =
    need_first _ (disagree l) 24 0 0 _ _ (agree_is l)
    (need_first _ (ltb 31 (length l.ssrcs)) 19 (length l.ssrcs) 31 _ _ (leb_ltb (length l.ssrcs) 31)
    (need_first _ (bad_padding k) 11 k 0 _ _ (padding_is k) (items_first (lent_items l.types l.prefixes l.values l.bytes))))
own_first (give_bye ss r k) =
    need_first _ (ltb 31 (length ss)) 15 (length ss) 31 _ _ (leb_ltb (length ss) 31)
    (need_first _ (bad_padding k) 11 k 0 _ _ (padding_is k) (need_last _ (ltb 255 (length r)) 16 (length r) 255 (leb_ltb (length r) 255)))
own_first (give_app subtype ssrc name d k) =
    need_first _ (ltb 31 subtype) 12 subtype 31 _ _ (leb_ltb subtype 31)
    (need_first _ (ltb 4 (length name) || not_ascii name) 13 0 0 _ _ (and_or (leb (length name) 4) (ascii name) (ltb 4 (length name)) (not_ascii name) (leb_ltb (length name) 4) (ascii_is name))
    (need_first _ (not (eqb (length d % 4) 0)) 14 (length d) 0 _ _ (not_not _) (need_last _ (bad_padding k) 11 k 0 (padding_is k))))

-- the writer keeps the book's order, through 22
pub tests_first : (g : Given) → tests g ≡ first_fault (own_faults g ++ (fault (ltb 262144 (length (layout (packet_given g)))) 22 0 0 ∷ []))
unfolding tests
tests_first g =
    then_first (own_tests g) (need (leb (length (layout (packet_given g))) 262144) 22 0 0) (own_faults g) _ (own_first g)
    (need_last _ (ltb 262144 (length (layout (packet_given g)))) 22 0 0 (leb_ltb (length (layout (packet_given g))) 262144))
