-- Demand 3. First any writer with any calls against any book: if each call answers as the book does and keeps the agreement, so does every
-- list of calls. Then the compound writer.
use Rattle.rfc3550.proofs.Prelude.{ℕ, ◌+◌, ◌<◌, ◌≤◌, ◌≡◌, refl, sym, ap, ◌∙◌, subst, ◌⊎◌, inl, inr, Bool, true, false, ◌&&◌, ◌||◌, not, List, [], ◌∷◌, ◌++◌, append_assoc, append-nil, map, arith, length, take, drop, length-append, take_at, leb, ltb, lt-ltb, leb-true, ltb-false, not-true}
use Rattle.rfc3550.specs.Answer.{Answer, ok, refused, need, ◌>>◌, capped}
use Rattle.rfc3550.specs.Bytes.{store}
use Rattle.rfc3550.specs.Packet.{receiver, sender, Packet, type, layout, layouts, Valid, All, is_report, has_cname, some, OnlyLastPadded, starts_with_report, Compound}
use Rattle.rfc3550.specs.Compound.{read_compound}
use Rattle.rfc3550.specs.Write.{Given, give_report, give_sdes, give_bye, give_app, packet_given, content_given, padding_given, size_given, tests}
use Rattle.rfc3550.specs.Writer.{Writer, fresh, Request, add, close, add_tests, close_tests, after_add, call}
use Rattle.rfc3550.specs.Book.{first_fault, Book, empty, so_far, is_empty, last_padded, room_faults, gives_report, faults, listed, turn}
use Rattle.rfc3550.specs.Calls.{System, Event, Made, answers, book_input, booked, Lends, Closing, once_closed, compounds}
use Rattle.rfc3550.proofs.Answers.{need_inv, need_ok, then_inv, true≢false, or_false, or_assoc, not_not, leb_ltb}
use Rattle.rfc3550.proofs.Compounds.{compound_complete}
use Rattle.rfc3550.proofs.Writes.{length_padding_bytes, given_packet_valid}
use Rattle.rfc3550.proofs.Books.{or_and, need_first, need_last, then_first, tests_first}

-- ---- any system

module _ (s : System) where
  -- a call answers as the book does, and keeps the agreement
  abbrev pub Tied : (s.W → List ℕ → s.B → Type 0) → s.R → s.W → List ℕ → s.B → List ℕ → Type 0
  Tied Agree r w d b l =
      ((s.call r w l).0 ≡ (s.turn r (length l) b).0)
      × Agree (s.call r w l).1 (s.kept r (s.call r w l).0 (s.call r w l).1 (s.call r w l).2 d) (s.turn r (length l) b).1

  module _ (Agree : s.W → List ℕ → s.B → Type 0)
      (tied : (r : s.R) (w : s.W) (d : List ℕ) (b : s.B) (l : List ℕ) → Agree w d b → s.Lent r d l → Tied Agree r w d b l)
      (same : (w : s.W) (d : List ℕ) (b : s.B) → Agree w d b → s.shown w d ≡ s.expected b) where
    one : (e : Event s) (w : s.W) (d : List ℕ) (b : s.B) → Agree w d b → (e.answer, e.next, e.left) ≡ s.call e.request w e.lent → s.Lent e.request d e.lent
        → (e.answer ≡ (s.turn e.request (length e.lent) b).0) × Agree e.next (s.kept e.request e.answer e.next e.left d) (s.turn e.request (length e.lent) b).1
    one e w d b g m k =
        subst (λ (x : Answer (Unit {0}) × s.W × List ℕ).
        (x.0 ≡ (s.turn e.request (length e.lent) b).0) × Agree x.1 (s.kept e.request x.0 x.1 x.2 d) (s.turn e.request (length e.lent) b).1)
        (sym m) (tied e.request w d b e.lent g k)

    pub simulation : (es : List (Event s)) (w : s.W) (d : List ℕ) (b : s.B) → Agree w d b → Made s es w d → answers s es d ≡ booked s (map (book_input s) es) b
    simulation [] w d b g m = refl
    simulation (e ∷ es) w d b g m =
        let a = one e w d b g m.0 m.1 in
        let d' = s.kept e.request e.answer e.next e.left d in
        let b' = (s.turn e.request (length e.lent) b).1 in
        ap (λ (z : Answer (Unit {0})). (z, s.shown e.next d') ∷ answers s es d') a.0
        ∙ ap (λ (z : s.O). ((s.turn e.request (length e.lent) b).0, z) ∷ answers s es d') (same e.next d' b' a.1)
        ∙ ap (λ (z : List (Answer (Unit {0}) × s.O)). ((s.turn e.request (length e.lent) b).0, s.expected b') ∷ z) (simulation es e.next d' b' a.1 m.2)

-- ---- a book's list, as it grows

so_far_is : (ps : List Packet) → so_far ps ≡ length (layouts ps)
unfolding layouts
so_far_is [] = refl
so_far_is (p ∷ ps) = rw (length-append (layout p) (layouts ps), so_far_is ps)

is_empty_is : (ps : List Packet) → ltb 0 (length (layouts ps)) ≡ not (is_empty ps)
unfolding layouts layout
is_empty_is [] = refl
is_empty_is (p ∷ ps) = lt-ltb 0 (length (layouts (p ∷ ps))) (omega arith)

layouts_snoc : (ps : List Packet) (p : Packet) → layouts (ps ++ (p ∷ [])) ≡ layouts ps ++ layout p
unfolding layouts
layouts_snoc [] p = append-nil (layout p)
layouts_snoc (q ∷ ps) p = rw (layouts_snoc ps p) (sym (append_assoc (layout q) (layouts ps) (layout p)))

last_padded_snoc : (ps : List Packet) (p : Packet) → last_padded (ps ++ (p ∷ [])) ≡ ltb 0 (length p.padding)
last_padded_snoc [] p = refl
last_padded_snoc (q ∷ []) p = refl
last_padded_snoc (q ∷ r ∷ ps) p = last_padded_snoc (r ∷ ps) p

some_snoc : {A : Type 0} (f : A → Bool) (ps : List A) (p : A) → some f (ps ++ (p ∷ [])) ≡ some f ps || f p
some_snoc f [] p = or_false (f p)
some_snoc f (q ∷ ps) p = ap (λ (b : Bool). f q || b) (some_snoc f ps p) ∙ sym (or_assoc (f q) (some f ps) (f p))

all_snoc : (ps : List Packet) (p : Packet) → All Valid ps → Valid p → All Valid (ps ++ (p ∷ []))
all_snoc [] p h v = (v, tt)
all_snoc (q ∷ ps) p h v = (h.0, all_snoc ps p h.1 v)

unpadded : (l : List ℕ) → ltb 0 (length l) ≡ false → l ≡ []
unpadded [] e = refl
unpadded (b ∷ bs) e = absurd (let h = ltb-false 0 (length (b ∷ bs)) e in omega arith)

last_snoc : (ps : List Packet) (p : Packet) → OnlyLastPadded ps → last_padded ps ≡ false → OnlyLastPadded (ps ++ (p ∷ []))
last_snoc [] p h e = tt
last_snoc (q ∷ []) p h e = (unpadded q.padding e, tt)
last_snoc (q ∷ r ∷ ps) p h e = (h.0, last_snoc (r ∷ ps) p h.1 e)

report_snoc : (ps : List Packet) (p : Packet) → is_empty ps || starts_with_report ps ≡ true → not (is_empty ps) || is_report (type p.content) ≡ true
    → is_empty (ps ++ (p ∷ [])) || starts_with_report (ps ++ (p ∷ [])) ≡ true
report_snoc [] p h q = q
report_snoc (r ∷ ps) p h q = h

-- ---- the writer and the book agree

pub record Agree (w : Writer) (d : List ℕ) (b : Book) : Type 0 where
  pub len : w.len ≡ length d
  pub bytes : d ≡ layouts b.packets
  pub padded : w.padded ≡ last_padded b.packets
  pub cname : w.cname ≡ some has_cname b.packets
  pub closed : w.closed ≡ b.closed
  pub valid : All Valid b.packets
  pub last : OnlyLastPadded b.packets
  pub report : is_empty b.packets || starts_with_report b.packets ≡ true
  pub named : not b.closed || some has_cname b.packets ≡ true

gives_report_lem : (g : Given) → is_report (type (content_given g)) ≡ gives_report g
gives_report_lem (give_report (receiver s) l k) = refl
gives_report_lem (give_report (sender s n r p o) l k) = refl
gives_report_lem (give_sdes l k) = refl
gives_report_lem (give_bye ss r k) = refl
gives_report_lem (give_app subtype ssrc name d k) = refl

room_first : (m size n : ℕ) → (need (leb m n) 10 (capped m) 0 >> need (leb (m + size) n) 10 (capped (m + size)) 0) ≡ first_fault (room_faults m size n)
room_first m size n = need_first (leb m n) (ltb n m) 10 (capped m) 0 _ _ (leb_ltb m n) (need_last (leb (m + size) n) (ltb n (m + size)) 10 (capped (m + size)) 0 (leb_ltb (m + size) n))

-- both make the same checks in the same order
add_first : (w : Writer) (d : List ℕ) (b : Book) (g : Given) (n : ℕ) → Agree w d b → add_tests w g n ≡ first_fault (faults (add g) n b)
unfolding add_tests
add_first w d b g n a =
    let e : w.len ≡ so_far b.packets = a.len ∙ ap length a.bytes ∙ sym (so_far_is b.packets) in
    let z : ltb 0 w.len ≡ not (is_empty b.packets) = ap (ltb 0) (a.len ∙ ap length a.bytes) ∙ is_empty_is b.packets in
    rw (z, e, a.closed, a.padded, gives_report_lem g)
    (need_first (not b.closed) b.closed 26 0 0 _ _ refl
    (need_first (not (last_padded b.packets)) (last_padded b.packets) 29 0 0 _ _ refl
    (need_first (not (is_empty b.packets) || gives_report g) (is_empty b.packets && not (gives_report g)) 27 0 0 _ _ (or_and (is_empty b.packets) (gives_report g))
    (then_first (tests g) _ _ (room_faults (so_far b.packets) (size_given g) n) (tests_first g) (room_first (so_far b.packets) (size_given g) n)))))

close_first : (w : Writer) (d : List ℕ) (b : Book) (n : ℕ) → Agree w d b → close_tests w ≡ first_fault (faults close n b)
unfolding close_tests
close_first w d b n a = simp (a.closed, a.cname) (need_first (not b.closed) b.closed 26 0 0 _ _ refl (need_last (some has_cname b.packets) (not (some has_cname b.packets)) 28 0 0 (not_not _)))

-- an add that passed: the writer was open, its list ended unpadded, a report is first, what is given is valid, and there was room
record AddPassed (w : Writer) (g : Given) (n : ℕ) : Type 0 where
  open_still : w.closed ≡ false
  unpadded : w.padded ≡ false
  report : ltb 0 w.len || is_report (type (content_given g)) ≡ true
  tested : tests g ≡ ok tt
  fits : w.len + size_given g ≤ n

passed : (w : Writer) (g : Given) (n : ℕ) → add_tests w g n ≡ ok tt → AddPassed w g n
unfolding add_tests
passed w g n e =
    let a = need_inv _ _ _ _ _ e in
    let b = need_inv _ _ _ _ _ a.1 in
    let c = need_inv _ _ _ _ _ b.1 in
    let d = then_inv _ _ c.1 in
    let f = need_inv _ _ _ _ _ d.1 in
    record { open_still = not-true _ a.0; unpadded = not-true _ b.0; report = c.0; tested = d.0; fits = leb-true _ _ (need_ok _ _ _ _ f.1) }

-- the buffer starts with the datagram so far, so after the store it starts with that and the packet
left_is : (d l bs : List ℕ) (m : ℕ) → m ≡ length d → (length l < length d) ⊎ (take (length d) l ≡ d) → m + length bs ≤ length l → take (m + length bs) (store m bs l) ≡ d ++ bs
unfolding store
left_is d l bs m e (inl s) h = absurd (omega arith)
left_is d l bs m e (inr s) h =
    let q : take m l ≡ d = ap (λ (n : ℕ). take n l) e ∙ s in
    rw (q, ← append_assoc d bs (drop (m + length bs) l)) (take_at (d ++ bs) (drop (m + length bs) l) (m + length bs) (length-append d bs ∙ ap (λ (n : ℕ). n + length bs) (sym e)))

agree_add : (w : Writer) (d : List ℕ) (b : Book) (g : Given) (l : List ℕ) → Agree w d b → Lends (add g) d l → AddPassed w g (length l)
    → Agree (after_add w g) (take (w.len + size_given g) (store w.len (layout (packet_given g)) l)) (listed (add g) b)
agree_add w d b g l a k p =
    let q = left_is d l (layout (packet_given g)) w.len a.len k.1 p.fits in
    let z : ltb 0 w.len ≡ not (is_empty b.packets) = ap (ltb 0) (a.len ∙ ap length a.bytes) ∙ is_empty_is b.packets in
    record {
      len = rw (q, length-append, a.len);
      bytes = q ∙ ap (λ (x : List ℕ). x ++ layout (packet_given g)) a.bytes ∙ sym (layouts_snoc b.packets (packet_given g));
      padded = ap (ltb 0) (sym (length_padding_bytes (padding_given g))) ∙ sym (last_padded_snoc b.packets (packet_given g));
      cname = ap (λ (x : Bool). x || has_cname (packet_given g)) a.cname ∙ sym (some_snoc has_cname b.packets (packet_given g));
      closed = a.closed;
      valid = all_snoc b.packets (packet_given g) a.valid (given_packet_valid g k.0 p.tested);
      last = last_snoc b.packets (packet_given g) a.last (sym a.padded ∙ p.unpadded);
      report = report_snoc b.packets (packet_given g) a.report (rw (← z) p.report);
      named = rw (← a.closed, p.open_still);
    }

tied_add : (g : Given) (w : Writer) (d : List ℕ) (b : Book) (l : List ℕ) → Agree w d b → Lends (add g) d l
    → (r : Answer (Unit {0})) → add_tests w g (length l) ≡ r → first_fault (faults (add g) (length l) b) ≡ r → Tied compounds Agree (add g) w d b l
unfolding call turn
tied_add g w d b l a k (ok u) e q = rw (e, q) (refl, agree_add w d b g l a k (passed w g (length l) e))
tied_add g w d b l a k (refused x) e q = rw (e, q) (refl, a)

close_named : (w : Writer) {u : Unit {0}} → close_tests w ≡ ok u → w.cname ≡ true
unfolding close_tests
close_named w e = need_ok _ _ _ _ (need_inv _ _ _ _ _ e).1

tied_close : (w : Writer) (d : List ℕ) (b : Book) (l : List ℕ) → Agree w d b
    → (r : Answer (Unit {0})) → close_tests w ≡ r → first_fault (faults close (length l) b) ≡ r → Tied compounds Agree close w d b l
unfolding call turn
tied_close w d b l a (ok u) e q = rw (e, q) (refl, record { len = a.len; bytes = a.bytes; padded = a.padded; cname = a.cname; closed = refl; valid = a.valid; last = a.last; report = a.report; named = sym a.cname ∙ close_named w e })
tied_close w d b l a (refused x) e q = rw (e, q) (refl, a)

tied : (r : Request) (w : Writer) (d : List ℕ) (b : Book) (l : List ℕ) → Agree w d b → Lends r d l → Tied compounds Agree r w d b l
tied (add g) w d b l a k = tied_add g w d b l a k (add_tests w g (length l)) refl (sym (add_first w d b g (length l) a))
tied close w d b l a k = tied_close w d b l a (close_tests w) refl (sym (close_first w d b (length l) a))

-- once closed, the book's list is a compound
closed_compound : (w : Writer) (d : List ℕ) (b : Book) → Agree w d b → b.closed ≡ true → Compound b.packets
closed_compound w d b a e =
    let c : some has_cname b.packets ≡ true = subst (λ (t : Bool). not t || some has_cname b.packets ≡ true) e a.named in
    record { valid = a.valid; report = go b.packets c a.report; cname = c; padding = a.last }
  where
    go : (ps : List Packet) → some has_cname ps ≡ true → is_empty ps || starts_with_report ps ≡ true → starts_with_report ps ≡ true
    go [] c h = absurd (true≢false (sym c))
    go (p ∷ ps) c h = h

same : (w : Writer) (d : List ℕ) (b : Book) → Agree w d b → compounds.shown w d ≡ compounds.expected b
same w d b a = rw (a.closed, a.bytes) (go b.closed refl)
  where
    go : (t : Bool) → b.closed ≡ t → ◌≡◌ {A = List ℕ × Closing} (layouts b.packets, once_closed t (read_compound (layouts b.packets))) (layouts b.packets, once_closed t (ok b.packets))
    go true e = rw (compound_complete b.packets (closed_compound w d b a e))
    go false e = refl

-- for every list of calls from a fresh writer, refused ones included: each answer is the book's, after it the datagram so far is the book's
-- packets laid end to end, and once closed reading it gives exactly these
pub demand3 : (es : List (Event compounds)) → Made compounds es fresh [] → answers compounds es [] ≡ booked compounds (map (book_input compounds) es) empty
unfolding layouts
demand3 es m =
    simulation compounds Agree tied same es fresh [] empty
    (record { len = refl; bytes = refl; padded = refl; cname = refl; closed = refl; valid = tt; last = tt; report = refl; named = refl }) m
