-- The steps of the walk over a chunk's items.
use Rattle.std.specs.Prelude.{None, Some}
use Rattle.std.proofs.lemmas.Option.{none-some}
use Rattle.rfc3550.proofs.Prelude.{ℕ, ◌-◌, ◌<◌, ◌≤◌, arith, ◌≡◌, refl, sym, ap, ◌∙◌, not, List, ltb, eqb, rules, lt-ltb, ne_eqb, length, get_or, take, drop}
use Rattle.rfc3550.specs.Answer.{Refusal, ok, refused, need, ◌>>◌, ◌>>=◌, map_ok}
use Rattle.rfc3550.specs.Packet.{Item}
use Rattle.rfc3550.specs.Read.{read_item, read_chunk}
use Rattle.rfc3550.specs.Walk.{open_items, item_step}
use Rattle.rfc3550.proofs.Answers.{map_ok_inv, ok_injective}
use Rattle.utils.specs.Error.{value_in}
use Rattle.utils.proofs.Values.{none_below}
use Rattle.utils.proofs.Errors.{parse_handed}
use Rattle.utils.proofs.Reading.{map_ok_refused}
use Rattle.sdes_chunk.specs.declared.item.SdesItem.{SdesItem}
use Rattle.sdes_chunk.specs.declared.chunk.SdesChunk.{SdesChunk}
use Rattle.sdes_chunk.specs.Item.{item_first, item_end, step_end}
use Rattle.sdes_chunk.specs.Chunk.{chunk_first}
use Rattle.sdes_chunk.specs.Walk.{item_walk, item_stepped}
use Rattle.sdes_chunk.proofs.Answers.{rest_is}
use Rattle.sdes_chunk.proofs.Items.{Steps, steps}

module _ (s : List ℕ) where
  pub items_not_opened : (k : Refusal) → refused k ≡ map_ok chunk_first (read_chunk s) → refused k ≡ map_ok item_walk (open_items s)
  unfolding open_items ◌>>=◌ map_ok
  items_not_opened k e = rw (map_ok_refused chunk_first (read_chunk s) (sym e))

  pub items_opened : (c : SdesChunk) → ok c ≡ map_ok chunk_first (read_chunk s) → ok (record { at = 4 }) ≡ map_ok item_walk (open_items s)
  unfolding open_items ◌>>=◌ map_ok
  items_opened c e = rw (map_ok_inv chunk_first (read_chunk s) (sym e)).1

module _ (s : List ℕ) (at : ℕ) where
  pub step_none : None ≡ step_end s at → value_in (item_step s at) ≡ None
  step_none h = none_below (λ (x : Item × ℕ). x.1) (item_step s at) h

  pub item_not_stepped : (k : Refusal) → refused k ≡ item_step s at → refused k ≡ map_ok item_stepped (item_step s at)
  unfolding map_ok
  item_not_stepped k e = rw (sym e)

  module _ (n : ℕ) (h : Some n ≡ step_end s at) where
    on : Steps s at n
    on = steps s at n h

    pub step_inside : at ≤ length s
    step_inside = let l = on.inside in omega arith

    pub step_some : value_in (read_item (take (length s - at) (drop at s))) ≡ None → ⊥
    step_some e = let w = on in none-some w.read (sym e ∙ ap value_in (ap read_item (rest_is s at) ∙ w.reads))

    pub item_stepped_lem : (i : SdesItem) → ok i ≡ map_ok item_first (read_item (take (length s - at) (drop at s)))
        → ok (i, record { at = n }) ≡ map_ok item_stepped (item_step s at)
    unfolding item_step need ◌>>◌ ◌>>=◌ map_ok
    item_stepped_lem i q = go on.read on.reads on.end on.inside on.item
      where
        go : (x : Item × List ℕ) → read_item (drop at s) ≡ ok x → item_end at x ≡ n → at < length s → (get_or s at 0 ≡ 0 → ⊥) → ok (i, record { at = n }) ≡ map_ok item_stepped (item_step s at)
        go x r m l z =
            let v : i ≡ item_first x = ok_injective (q ∙ ap (λ (s : List ℕ). map_ok item_first (read_item s)) (rest_is s at) ∙ rw r) in
            rw (lt-ltb at (length s) l, ne_eqb (get_or s at 0) 0 z, r, v, ← m)

pub ruleset walks = (rules, parse_handed, items_not_opened, items_opened, step_none, item_not_stepped, step_inside, step_some, item_stepped_lem)
