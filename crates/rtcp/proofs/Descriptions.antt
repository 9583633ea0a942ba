-- SDES packets, chunks, items and walks: what C gets, from what the readers answer.
use Rattle.std.specs.Prelude.{Result, Ok}
use Rattle.rfc3550.proofs.Prelude.{◌≡◌, refl, sym, ap, Bool, not, List, ℕ, ◌+◌, ◌-◌, ◌^◌, ◌<◌, ◌≤◌, arith, length, length-drop, drop, get_or, eqb, ltb, rules, eq-eqb, ne_eqb}
use Rattle.rfc3550.specs.Answer.{Answer, ok, map_ok, pick}
use Rattle.rfc3550.specs.Packet.{Item, item, priv, item_rest, item_bytes}
use Rattle.rfc3550.specs.Read.{read_item}
use Rattle.rfc3550.specs.Walk.{item_step}
use Rattle.rfc3550.proofs.Answers.{ok_injective, need_inv, bind_elim}
use Rattle.utils.specs.Error.{parsed_of}
use Rattle.utils.specs.declared.error.RtcpParseError.{RtcpParseError}
use Rattle.sdes_chunk.specs.Item.{item_view, item_first, prefix_length, value_start}
use Rattle.sdes_chunk.specs.Walk.{item_stepped}
use Rattle.sdes_chunk.proofs.Readings.{item_placed}
use Rattle.sdes_chunk.specs.declared.item.SdesItem.{SdesItem}
use Rattle.sdes_chunk.specs.declared.chunk.ItemWalk.{ItemWalk}
use Rattle.rtcp.specs.Sdes.{prefix_start}
use Rattle.rtcp.proofs.Results.{viewed}

-- ---- items

start_by : (b : Bool) → pick b 3 2 + 0 ≡ pick b 3 2
start_by b = omega arith

starts : (i : Item) → prefix_start (item_view i) + prefix_length i ≡ value_start (item_view i)
starts (item t v) = start_by (eqb t 8)
starts (priv p v) = refl

in_item : (s : List ℕ) {x : Item × List ℕ} → read_item s ≡ ok x → prefix_start (item_view x.0) + prefix_length x.0 ≤ 2 + length (item_rest x.0)
in_item s {x} e = rw (starts x.0) (item_placed s e).start

module _ (o : Result SdesItem RtcpParseError) (i : SdesItem) (s : List ℕ) (p : o ≡ Ok i) (q : parsed_of o ≡ map_ok item_first (read_item s)) where
  pub item_order : prefix_start i + i.prefix_len ≤ 2 + i.length
  item_order = viewed item_first (λ (i : SdesItem). prefix_start i + i.prefix_len ≤ 2 + i.length) (read_item s) (λ x e. in_item s e) o i p q

  pub item_fits : length s < 2 ^ 64 → 0 + (2 + i.length) < 2 ^ 64
  item_fits l =
      let m : 2 + i.length ≤ length s =
      viewed item_first (λ (i : SdesItem). 2 + i.length ≤ length s) (read_item s) (λ x e. (item_placed s e).within) o i p q
      in omega arith

-- ---- the walk over items

step_read : (s : List ℕ) (at : ℕ) {y : Item × ℕ} → item_step s at ≡ ok y → (r : List ℕ) × (read_item (drop at s) ≡ ok (y.0, r)) × (y.1 ≡ at + length (item_bytes y.0))
unfolding item_step
step_read s at {y} e =
    let a = need_inv (ltb at (length s)) 25 0 0 _ e in
    let b = need_inv (not (eqb (get_or s at 0) 0)) 25 0 0 _ a.1 in
    bind_elim (read_item (drop at s)) (λ x. ok (x.0, at + length (item_bytes x.0))) b.1 (λ x f g. step_came x f g)
  where
    step_came : (x : Item × List ℕ) → read_item (drop at s) ≡ ok x → ◌≡◌ {A = Answer (Item × ℕ)} (ok (x.0, at + length (item_bytes x.0))) (ok y)
        → (r : List ℕ) × (read_item (drop at s) ≡ ok (y.0, r)) × (y.1 ≡ at + length (item_bytes y.0))
    step_came x f g =
        let h = ok_injective g in
        let k : x.0 ≡ y.0 = ap (λ (z : Item × ℕ). z.0) h in
        (x.1, rw (← k) f, rw (← k) (sym (ap (λ (z : Item × ℕ). z.1) h)))

module _ (o : Result (SdesItem × ItemWalk) RtcpParseError) (i : SdesItem) (w : ItemWalk) (s : List ℕ) (at : ℕ) (p : o ≡ Ok (i, w)) (q : parsed_of o ≡ map_ok item_stepped (item_step s at)) where
  came : (P : SdesItem × ItemWalk → Type 0) → ((y : Item × ℕ) → item_step s at ≡ ok y → P (item_stepped y)) → P (i, w)
  came P all = viewed item_stepped P (item_step s at) all o (i, w) p q

  pub step_order : prefix_start i + i.prefix_len ≤ 2 + i.length
  step_order = came (λ x. prefix_start x.0 + x.0.prefix_len ≤ 2 + x.0.length) (λ y e. in_item (drop at s) (step_read s at e).1)

  pub step_fits : length s < 2 ^ 64 → at + (2 + i.length) < 2 ^ 64
  step_fits l =
      let m : 2 + i.length ≤ length s - at =
      came (λ x. 2 + x.0.length ≤ length s - at) (λ y e. let g = item_placed (drop at s) (step_read s at e).1 in let d = length-drop at s in omega (arith, g.within))
      in omega arith

pub ruleset descriptions = (rules, item_order, item_fits)
