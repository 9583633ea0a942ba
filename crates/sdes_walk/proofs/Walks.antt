-- A walk with its bytes, from the walk of crate sdes that it holds.
use Rattle.rfc3550.proofs.Prelude.{ℕ, List, ◌≡◌, refl, sym, ap, ◌∙◌, Bool, true, false, rules, length, take, ltb}
use denote.Ref.{Bor}
use Rattle.rfc3550.specs.Answer.{Refusal, Answer, ok, refused, refuse, need, ◌>>◌, map_ok}
use Rattle.rfc3550.specs.Walk as rfc
use Rattle.rfc3550.proofs.Answers.{map_ok_inv}
use Rattle.utils.proofs.Errors.{parse_handed}
use Rattle.utils.proofs.Reading.{map_ok_refused}
use Rattle.sdes.specs.Walk.{chunk_walk}
use Rattle.sdes.specs.declared.sdes.ChunkWalk.{ChunkWalk}
use Rattle.sdes_walk.specs.Walk.{walk_on, ended_on, opened_on, step_at, moved_on}
use Rattle.sdes_walk.specs.declared.SdesWalk.{SdesWalk}

module _ (a : Answer rfc.SdesWalk) where
  -- whatever is made of a walk
  pub held_not_opened : {B : Type 0} (view : rfc.SdesWalk → B) (k : Refusal) → refused k ≡ map_ok chunk_walk a → refused k ≡ map_ok view a
  unfolding map_ok
  held_not_opened view k e = rw (map_ok_refused chunk_walk a (sym e))

  pub held_opened : (d : Bor (List ℕ)) (w : ChunkWalk) → ok w ≡ map_ok chunk_walk a → ok (record { «data» = d; position = w }) ≡ map_ok (walk_on d) a
  unfolding map_ok
  held_opened d w e = let m = map_ok_inv chunk_walk a (sym e) in ap (λ (w : ChunkWalk). ok (record { «data» = d; position = w })) (sym m.2) ∙ sym (ap (map_ok (walk_on d)) m.1)

-- ---- the walk of a packet that is refused

-- whichever of the two tests fails, it is 25
either : {B : Type 0} (t : Bool) (r : Answer B) → (need t 25 0 0 >> (need false 25 0 0 >> r)) ≡ refuse 25 0 0
unfolding need ◌>>◌
either true r = refl
either false r = refl

-- a step of it gives 25 on any bytes
pub ended_step : (s : List ℕ) → step_at s (record { at = 0; end = 0 }) ≡ refuse 25 0 0
unfolding rfc.sdes_step map_ok
ended_step s = rw (either (ltb 0 (length (take 262144 s))) _)

-- and leaves it as it was
pub ended_stays : (d : Bor (List ℕ)) → moved_on (ended_on d) ≡ ended_on d
ended_stays d = rw (ended_step d.now)

module _ (d : Bor (List ℕ)) where
  -- the walk that is opened on an accepted packet, and the ended one of a packet that is refused
  pub opened_accepted : (w : SdesWalk) → ok w ≡ map_ok (walk_on d) (rfc.open_sdes d.now) → opened_on d ≡ w
  unfolding map_ok
  opened_accepted w e = let m = map_ok_inv (walk_on d) (rfc.open_sdes d.now) (sym e) in rw m.1 (m.2)

  pub opened_refused : (k : Refusal) → refused k ≡ map_ok (walk_on d) (rfc.open_sdes d.now) → opened_on d ≡ ended_on d
  unfolding map_ok
  opened_refused k e = rw (map_ok_refused (walk_on d) (rfc.open_sdes d.now) (sym e))

pub ruleset held = (rules, parse_handed, held_not_opened, held_opened)
