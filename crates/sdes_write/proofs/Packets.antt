-- The cases of a packet's lists, of its size and of its bytes, each from what the code has tested or called.
use Rattle.std.specs.Prelude.{Option, None, Some}
use Rattle.rfc3550.proofs.Prelude.{ℕ, suc, ◌+◌, ◌-◌, ◌*◌, ◌<◌, ◌≤◌, ◌^◌, ◌≡◌, refl, sym, ap, ◌∙◌, Bool, true, false, ◌&&◌, List, [], ◌∷◌, arith, le-leb, lt-leb, leb-true, leb-false, eq-eqb, ne_eqb, eqb-true, eqb-false, not-true, not-false, length, take, drop, get_or, leb, eqb}
use Rattle.rfc3550.specs.Answer.{Refusal, Answer, ok, refused, refusal, need, ◌>>◌, pick}
use Rattle.rfc3550.specs.Bytes.{sum, store}
use Rattle.rfc3550.specs.Packet.{sdes, content_bytes, layout}
use Rattle.rfc3550.specs.Write.{LentItem, lent_items, lent_chunks, Given, give_sdes, chunks_given, packet_given, padding_bytes, padding_ok, items_tests, items_agree, lists_agree, own_tests, calculate_size}
use Rattle.rfc3550.proofs.Answers.{need_inv, then_inv, and_inv, ok_injective}
use Rattle.utils.specs.Error.{value_in}
use Rattle.utils.specs.Writer.{header}
use Rattle.utils.proofs.WriterPackets.{writes, padding_most, sized, size_ok, size_over, size_refused, why_last, header_last, header_long, packet_laid}
use Rattle.utils.proofs.Values.{value_is, values}
use Rattle.chunk_write.specs.Sizes.{SameLengths, too_large, items_refused, at_most, chunks_end, ChunksMeasured}
use Rattle.chunk_write.specs.Lists.{laid_chunks, ChunksFit}
use Rattle.chunk_write.proofs.Sizes.{Agreed, agreed, chunks_are, refusal_of, EndKnown, end_known, end_agreed}
use Rattle.sdes_write.specs.Packets.{lists, with_padding, EndsFit, SdesFits}

-- ---- 24

and_none : (b : Bool) → b && false ≡ false
and_none true = refl
and_none false = refl

module _ (ss cs ts ps vs bs : List ℕ) where
  pub counts_other : (length ss ≡ length cs → ⊥) → false ≡ lists_agree (lists ss cs ts ps vs bs)
  counts_other h = simp (ne_eqb _ _ h)

  module _ (h : length ss ≡ length cs) (t : Bool) (e : t ≡ eqb (sum cs) (length ts)) where
    pub counts_sum : t ≡ false → false ≡ lists_agree (lists ss cs ts ps vs bs)
    counts_sum q = simp (eq-eqb _ _ h, ← e, q)

    pub counts_agree : (w : Bool) → t ≡ true → w ≡ items_agree ts ps vs bs → w ≡ lists_agree (lists ss cs ts ps vs bs)
    counts_agree w q g = g ∙ simp (eq-eqb _ _ h, ← e, q)

  items_other : items_agree ts ps vs bs ≡ false → lists_agree (lists ss cs ts ps vs bs) ≡ false
  items_other h = rw h (and_none (eqb (length ss) (length cs) && eqb (sum cs) (length ts)))

pub record AllAgreed (ss cs ts ps vs bs : List ℕ) : Type 0 where
  pub counts : length cs ≡ length ss
  pub sums : sum cs ≡ length ts
  pub items : Agreed ts ps vs bs

pub all_agreed : (ss cs ts ps vs bs : List ℕ) (t : Bool) → t ≡ lists_agree (lists ss cs ts ps vs bs) → t ≡ true → AllAgreed ss cs ts ps vs bs
all_agreed ss cs ts ps vs bs t e q =
    let a = and_inv (eqb (length ss) (length cs) && eqb (sum cs) (length ts)) (items_agree ts ps vs bs) (sym e ∙ q) in
    let b = and_inv (eqb (length ss) (length cs)) (eqb (sum cs) (length ts)) a.0 in
    record { counts = sym (eqb-true _ _ b.0); sums = eqb-true _ _ b.1; items = agreed ts ps vs bs (items_agree ts ps vs bs) refl a.1 }

pub lists_listed : (ss cs ts ps vs bs : List ℕ) (t : Bool) → t ≡ lists_agree (lists ss cs ts ps vs bs) → t ≡ true → SameLengths ts ps vs
lists_listed ss cs ts ps vs bs t e q = let a = all_agreed ss cs ts ps vs bs t e q in record { prefixes = a.items.prefixes; values = a.items.values }

-- ---- the size, and why there is none

length_chunks : (ss cs : List ℕ) (is : List LentItem) → length (chunks_given (lent_chunks ss cs is)) ≡ length ss
unfolding lent_chunks chunks_given
length_chunks [] cs is = refl
length_chunks (s ∷ ss) cs is = ap suc (length_chunks ss (drop 1 cs) (drop (get_or cs 0 0) is))

module _ (ss cs ts ps vs bs : List ℕ) (k : ℕ) where
  abbrev given : Given
  given = give_sdes (lists ss cs ts ps vs bs) k

  disagree : lists_agree (lists ss cs ts ps vs bs) ≡ false → refused (refusal 24 0 0) ≡ calculate_size given
  unfolding own_tests need ◌>>◌
  disagree q = size_refused given (simp q)

  pub why_disagree : (t : Bool) → t ≡ lists_agree (lists ss cs ts ps vs bs) → t ≡ false → refused (refusal 24 0 0) ≡ calculate_size given
  why_disagree t e q = disagree (sym e ∙ q)

  pub size_counts : (length ss ≡ length cs → ⊥) → None ≡ value_in (calculate_size given)
  size_counts h = ap value_in (disagree (sym (counts_other ss cs ts ps vs bs h)))

  pub size_prefixes : (length ts ≡ length ps → ⊥) → None ≡ value_in (calculate_size given)
  size_prefixes h = ap value_in (disagree (items_other ss cs ts ps vs bs (simp (ne_eqb _ _ h))))

  pub size_values : length ts ≡ length ps → (length ts ≡ length vs → ⊥) → None ≡ value_in (calculate_size given)
  size_values f h = ap value_in (disagree (items_other ss cs ts ps vs bs (simp (eq-eqb _ _ f, ne_eqb _ _ h))))

  -- a refusal that lists that agree get; lists that don't get 24
  either : {x : Refusal} → (lists_agree (lists ss cs ts ps vs bs) ≡ true → refused x ≡ calculate_size given) → None ≡ value_in (calculate_size given)
  either f = go (lists_agree (lists ss cs ts ps vs bs)) refl
    where
      go : (t : Bool) → lists_agree (lists ss cs ts ps vs bs) ≡ t → None ≡ value_in (calculate_size given)
      go true q = ap value_in (f q)
      go false q = ap value_in (disagree q)

  many : lists_agree (lists ss cs ts ps vs bs) ≡ true → 31 < length ss → refused (refusal 19 (length ss) 31) ≡ calculate_size given
  unfolding own_tests need ◌>>◌
  many q h = size_refused given (simp (q, lt-leb _ _ h))

  pub size_many : 31 < length ss → None ≡ value_in (calculate_size given)
  size_many h = either (λ q. many q h)

  pub why_many : (t : Bool) → t ≡ lists_agree (lists ss cs ts ps vs bs) → t ≡ true → 31 < length ss → refused (refusal 19 (length ss) 31) ≡ calculate_size given
  why_many t e q h = many (sym e ∙ q) h

  module _ (h : length ss ≤ 31) (u : Bool) (eu : u ≡ padding_ok k) where
    unpadded : lists_agree (lists ss cs ts ps vs bs) ≡ true → u ≡ false → refused (refusal 11 k 0) ≡ calculate_size given
    unfolding own_tests need ◌>>◌
    unpadded q p = size_refused given (simp (q, le-leb _ _ h, ← eu, p))

    pub size_padding : u ≡ false → None ≡ value_in (calculate_size given)
    size_padding p = either (λ q. unpadded q p)

    pub why_padding : (t : Bool) → t ≡ lists_agree (lists ss cs ts ps vs bs) → t ≡ true → u ≡ false → refused (refusal 11 k 0) ≡ calculate_size given
    why_padding t e q p = unpadded (sym e ∙ q) p

    module _ (qu : u ≡ true) where
      own : lists_agree (lists ss cs ts ps vs bs) ≡ true → own_tests given ≡ items_tests (lent_items ts ps vs bs)
      unfolding own_tests need ◌>>◌
      own q = simp (q, le-leb _ _ h, ← eu, qu)

      pub why_items : (t : Bool) → t ≡ lists_agree (lists ss cs ts ps vs bs) → t ≡ true → value_in (calculate_size given) ≡ None → (r : Refusal) → refused r ≡ items_refused ts ps vs → refused r ≡ calculate_size given
      unfolding ◌>>◌
      why_items t e q z r f =
          let a = all_agreed ss cs ts ps vs bs t e q in
          go (items_tests (lent_items ts ps vs bs)) (own (sym e ∙ q)) (f ∙ refusal_of ts ps vs bs a.items.prefixes a.items.values (omega (arith, a.items.bytes)))
        where
          go : (m : Answer (Unit {0})) → own_tests given ≡ m → refused r ≡ (m >> too_large) → refused r ≡ calculate_size given
          go (ok v) i y = y ∙ why_last given i z
          go (refused x) i y = y ∙ size_refused given i

      module _ (ep : length ts ≡ length ps) (ev : length ts ≡ length vs) where
        size_none : None ≡ chunks_end 4 (length bs) cs ts ps vs → None ≡ value_in (calculate_size given)
        unfolding ◌>>◌
        size_none z = go (lists_agree (lists ss cs ts ps vs bs)) refl
          where
            passed : (m : Answer (Unit {0})) → own_tests given ≡ m → None ≡ value_in (m >> ok (4 + length (laid_chunks ss cs ts ps vs bs))) → None ≡ value_in (calculate_size given)
            passed (ok v) i e = cc
            passed (refused x) i e = ap value_in (size_refused given i)

            go : (t : Bool) → lists_agree (lists ss cs ts ps vs bs) ≡ t → None ≡ value_in (calculate_size given)
            go false q = ap value_in (disagree q)
            go true q =
                let a = all_agreed ss cs ts ps vs bs true (sym q) refl in
                passed (items_tests (lent_items ts ps vs bs)) (own q)
                (z ∙ end_agreed 4 (length bs) cs ts ps vs a.sums a.items.bytes ∙ ap value_in (chunks_are 4 ss cs ts ps vs bs refl a.counts a.sums a.items.prefixes a.items.values (omega (arith, a.items.bytes))))

        module _ (ec : length ss ≡ length cs) (n : ℕ) (g : Some n ≡ chunks_end 4 (length bs) cs ts ps vs) where
          known : EndKnown 4 (length bs) cs ts ps vs n
          known = end_known 4 (length bs) cs ts ps vs n g

          all : lists_agree (lists ss cs ts ps vs bs) ≡ true
          all = let y = known in simp (eq-eqb _ _ ec, eq-eqb _ _ y.counts, eq-eqb _ _ ep, eq-eqb _ _ ev, eq-eqb _ _ y.bytes)

          passed : (own_tests given ≡ ok tt) × (n ≡ 4 + length (laid_chunks ss cs ts ps vs bs))
          passed =
              let y = known in
              let a = then_inv _ _ (sym (chunks_are 4 ss cs ts ps vs bs refl (sym ec) y.counts (sym ep) (sym ev) (omega (arith, y.bytes))) ∙ y.is) in
              (own all ∙ a.0, sym (ok_injective a.1))

          size_is_of : n + k ≡ 4 + length (content_bytes (sdes (chunks_given (lent_chunks ss cs (lent_items ts ps vs bs))))) + k
          unfolding content_bytes
          size_is_of = omega (arith, passed.1)

          end_large : 262144 - k < n → None ≡ value_in (calculate_size given)
          end_large f = ap value_in (size_over given (n + k) passed.0 size_is_of (omega (arith, padding_most u k eu qu)))

          end_sum : n ≤ 262144 - k → Some (n + k) ≡ value_in (calculate_size given)
          end_sum f = ap value_in (size_ok given (n + k) passed.0 size_is_of (omega (arith, padding_most u k eu qu)))

      pub end_is : length ts ≡ length ps → length ts ≡ length vs → length ss ≡ length cs → (o : Option ℕ) → o ≡ at_most (262144 - k) (chunks_end 4 (length bs) cs ts ps vs) → with_padding k o ≡ value_in (calculate_size given)
      end_is ep ev ec o g = rw g (go (chunks_end 4 (length bs) cs ts ps vs) refl)
        where
          go : (x : Option ℕ) → x ≡ chunks_end 4 (length bs) cs ts ps vs → with_padding k (at_most (262144 - k) x) ≡ value_in (calculate_size given)
          go None q = size_none ep ev q
          go (Some n) q = last (leb n (262144 - k)) refl
            where
              last : (y : Bool) → leb n (262144 - k) ≡ y → with_padding k (pick y (Some n) None) ≡ value_in (calculate_size given)
              last true f = end_sum ep ev ec n q (leb-true _ _ f)
              last false f = end_large ep ev ec n q (leb-false _ _ f)

  pub size_measured : length ss ≡ length cs → length ts ≡ length ps → length ts ≡ length vs → length ss ≤ 31 → length bs + 3 * length ts + 252 < 2 ^ 64 → length ts * 8 < 2 ^ 64 → ChunksMeasured 4 cs ts ps vs (length bs)
  size_measured ec ep ev h f g = record { listed = record { prefixes = sym ep; values = sym ev }; room = omega arith; scaled = g }

  pub padding_small : (u : Bool) → u ≡ padding_ok k → u ≡ true → k ≤ 262144
  padding_small u e q = omega (arith, padding_most u k e q)

  -- ---- the bytes

  pub sdes_fits : (n space : ℕ) → calculate_size given ≡ ok n → n ≤ space → SdesFits ss cs ts ps vs bs k n space
  unfolding own_tests content_bytes
  sdes_fits n space e h =
      let z = sized given n e in
      let a = need_inv _ _ _ _ _ z.own in
      let b = need_inv _ _ _ _ _ a.1 in
      let c = need_inv _ _ _ _ _ b.1 in
      let y = all_agreed ss cs ts ps vs bs (lists_agree (lists ss cs ts ps vs bs)) refl a.0 in
      let s : n ≡ 4 + length (laid_chunks ss cs ts ps vs bs) + k = z.is in
      record {
        chunks = leb-true _ _ b.0;
        padding = padding_most _ k refl c.0;
        fits = record {
          counts = y.counts;
          items = y.sums;
          listed = record { prefixes = y.items.prefixes; values = y.items.values };
          bytes = omega (arith, y.items.bytes);
          tests = c.1;
          room = omega arith;
        };
        size = s;
        most = z.most;
        room = h;
      }

  -- ---- from the index after the chunks

  pub end_within : (n : ℕ) → Some (n + k) ≡ value_in (calculate_size given) → n + k < 2 ^ 64
  end_within n e = let y = (sized given (n + k) (sym (value_is _ _ e))).most in omega arith

  module _ (size : ℕ) (l : List ℕ) (f : SdesFits ss cs ts ps vs bs k size (length l)) where
    pub sdes_chunks : ChunksFit 4 ss cs ts ps vs bs (length l)
    sdes_chunks =
        let g = f.fits in
        let s = f.size in
        let m = f.room in
        record { counts = g.counts; items = g.items; listed = g.listed; bytes = g.bytes; tests = g.tests; room = omega arith }

    pub sdes_ends : (n : ℕ) → n ≡ length l → EndsFit (length ss) k size n
    sdes_ends n e = record { chunks = f.chunks; padding = f.padding; least = omega (arith, f.size); most = f.most; room = omega (arith, f.room) }

    pub sdes_laid : (l₁ l₂ : List ℕ) → l₁ ≡ store 4 (laid_chunks ss cs ts ps vs bs) l → l₂ ≡ store (size - k) (padding_bytes k) (store 0 (header k (length ss) 202 size) l₁) → l₂ ≡ store 0 (layout (packet_given given)) l
    unfolding content_bytes
    sdes_laid l₁ l₂ e₁ e₂ =
        let s = f.size in
        let m = f.room in
        let h : store 0 (header k (length ss) 202 size) l₁ ≡ store 4 (laid_chunks ss cs ts ps vs bs) (store 0 (header k (length ss) 202 size) l) = header_last k (length ss) 202 size (laid_chunks ss cs ts ps vs bs) l l₁ _ (omega arith) e₁ refl in
        packet_laid (sdes (chunks_given (lent_chunks ss cs (lent_items ts ps vs bs)))) k size (size - k) l (store 0 (header k (length ss) 202 size) l) (store 0 (header k (length ss) 202 size) l₁) l₂ s f.room (omega arith) (rw (length_chunks ss cs (lent_items ts ps vs bs))) h e₂

-- the header of an SDES, and its padding
module _ (count k size : ℕ) (l l₁ : List ℕ) (f : EndsFit count k size (length l)) (e : l₁ ≡ store 0 (header k count 202 size) l) where
  pub ends_padding : (n : ℕ) → n ≡ length l₁ → size - k + k ≤ n
  ends_padding n q = let m = header_long k count 202 size l l₁ (omega (arith, f.least, f.room)) e in omega (arith, f.least, f.room)

  pub ends_laid : (l₂ : List ℕ) → l₂ ≡ store (size - k) (padding_bytes k) l₁ → l₂ ≡ store (size - k) (padding_bytes k) (store 0 (header k count 202 size) l)
  ends_laid l₂ q = q ∙ rw e

pub ruleset sdess = (writes, values, not-true, not-false, counts_other, counts_sum, counts_agree, lists_listed, why_disagree, size_counts, size_prefixes, size_values, size_many, why_many, size_padding, why_padding, why_items, end_is, end_within, size_measured, padding_small, sdes_chunks, sdes_ends, sdes_laid, ends_padding, ends_laid)
