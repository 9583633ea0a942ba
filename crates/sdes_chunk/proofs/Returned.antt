-- The answers of a walk over items, from a walk just opened: answer i gives item i with every field, and 25 once all are given.
use Rattle.std.specs.Prelude.{Result, Ok}
use Rattle.rfc3550.proofs.Prelude.{ℕ, suc, ◌-◌, ◌<◌, ◌≡◌, refl, sym, ap, ◌∙◌, subst, List, ◌++◌, arith, ltb-true, length, take, drop, length-append, take-append-drop, length-take-le, eqb}
use Rattle.rfc3550.specs.Answer.{ok, map_ok}
use Rattle.rfc3550.specs.Bytes.{Bytes}
use Rattle.rfc3550.specs.Packet.{Item, item, priv, item_type, item_bytes, Chunk}
use Rattle.rfc3550.specs.Read.{nth, read_item, read_chunk}
use Rattle.rfc3550.specs.Walk.{open_items, item_step, gave, walked}
use Rattle.rfc3550.specs.Returned.{Ran, shown_of, firsts}
use Rattle.rfc3550.proofs.Answers.{need_inv, bind_elim, ok_injective, map_ok_inv}
use Rattle.rfc3550.proofs.Walks.{item_walk_gives}
use Rattle.rfc3550.proofs.Places.{value_at, prefix_at, priv_value_at}
use Rattle.rfc3550.proofs.Returned.{answers_run}
use Rattle.utils.specs.Error.{parsed_of}
use Rattle.utils.specs.declared.error.RtcpParseError.{RtcpParseError}
use Rattle.sdes_chunk.specs.Item.{item_view}
use Rattle.sdes_chunk.specs.Walk.{item_walk}
use Rattle.sdes_chunk.specs.Returned.{item_steps, item_from, item_seen, item_is}
use Rattle.sdes_chunk.specs.declared.chunk.ItemWalk.{ItemWalk}
use Rattle.sdes_chunk.proofs.Readings.{is_priv, item_in}
use Rattle.sdes_chunk.specs.declared.item.SdesItem.{SdesItem}

-- the numbers of an item that stands at a place, and the bytes there, give the item
pub item_from_lem : (s pre r : List ℕ) (at : ℕ) (i : Item) → length pre ≡ at → pre ++ (item_bytes i ++ r) ≡ s → is_priv i ≡ eqb (item_type i) 8 → item_from s at (item_view i) ≡ i
item_from_lem s pre r at (item t v) n e k = rw (sym k, value_at pre at n v r t e)
item_from_lem s pre r at (priv p v) n e k =
    let m : suc (length (p ++ v)) - 1 - length p ≡ length v = rw (length-append p v) (omega arith) in
    rw (m, prefix_at pre at n v r p e, priv_value_at pre at n v r p e)

pub item_step_from : (s : List ℕ) (at : ℕ) (x : Item × ℕ) → item_step s at ≡ ok x → item_from s at (item_view x.0) ≡ x.0
unfolding item_step
item_step_from s at x e =
    let a = need_inv _ _ _ _ _ e in
    let b = need_inv _ _ _ _ _ a.1 in
    let l : at < length s = ltb-true _ _ a.0 in
    bind_elim (read_item (drop at s)) _ b.1 (λ y q e₁.
    let z : y.0 ≡ x.0 = ap (λ (x : Item × ℕ). x.0) (ok_injective e₁) in
    let g = item_in (drop at s) q in
    subst (λ (i : Item). item_from s at (item_view i) ≡ i) z
    (item_from_lem s (take at s) y.1 at y.0 (length-take-le at s (omega arith)) (ap (λ (l : List ℕ). take at s ++ l) g.bytes ∙ take-append-drop at s) g.kind))

module _ (s : List ℕ) (h : Bytes s) where
  run_items : (x : Chunk × List ℕ) → read_chunk s ≡ ok x → (w : ItemWalk) → w.at ≡ 4 → (rs : List (Result (SdesItem × ItemWalk) RtcpParseError)) → Ran (item_steps s) rs w
      → shown_of (item_steps s) (λ h r. map_ok (item_seen s h) (parsed_of r)) rs w ≡ firsts (length rs) (λ (i : ℕ). map_ok item_is (nth i x.0.items))
  run_items x e w z rs t =
      answers_run (item_steps s) (item_step s) (λ h. h.at) item_walk (λ w. refl) item_view parsed_of (λ h r m. m) (λ h r. refl) (item_seen s) item_is
      (λ h x q. ap (λ (i : Item). (item_view x.0, i)) (item_step_from s h.at x q)) w x.0.items
      (λ i. ap (λ (n : ℕ). gave (item_step s (walked (item_step s) n i))) z ∙ (item_walk_gives s x h e).1 i) rs t

  -- a walk that `ItemWalk::open` returned, and the answers of `ItemWalk::step` in turn
  pub items_returned : (w : ItemWalk) → parsed_of (Ok w) ≡ map_ok item_walk (open_items s)
      → (x : Chunk × List ℕ) × (read_chunk s ≡ ok x)
      × ((rs : List (Result (SdesItem × ItemWalk) RtcpParseError)) → Ran (item_steps s) rs w → shown_of (item_steps s) (λ h r. map_ok (item_seen s h) (parsed_of r)) rs w ≡ firsts (length rs) (λ (i : ℕ). map_ok item_is (nth i x.0.items)))
  unfolding open_items
  items_returned w e =
      let m = map_ok_inv item_walk (open_items s) (sym e) in
      bind_elim (read_chunk s) _ m.1 (λ x q e₁. (x, q, run_items x q w (sym (ap (λ (w : ItemWalk). w.at) m.2) ∙ sym (ok_injective e₁))))
