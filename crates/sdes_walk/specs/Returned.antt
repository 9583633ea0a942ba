-- Steps of a walk that holds its bytes, and what is seen of each: the chunk's numbers, and the bytes at its place.
use Rattle.std.specs.Prelude.{ℕ, ◌≡◌, List}
use Rattle.rfc3550.specs.Answer.{Answer, map_ok}
use Rattle.rfc3550.specs.Returned.{Stepper}
use Rattle.utils.specs.Error.{parsed_of}
use Rattle.sdes_chunk.specs.declared.chunk.SdesChunk.{SdesChunk}
use Rattle.sdes.specs.Returned.{chunk_seen}
use Rattle.sdes_walk.specs.Walk.{step_at, moved_on}
use Rattle.sdes_walk.specs.declared.SdesWalk.{SdesWalk}
use Rattle.sdes_walk.specs.declared.SteppedWalk.{SteppedWalk}

-- the ensures of `SdesWalk::step`, and the walk that it returns
abbrev pub held_steps : Stepper
held_steps =
    record {
      H = SdesWalk;
      R = SteppedWalk;
      Meets = λ self r. (parsed_of r.answer ≡ step_at self.«data».now self.position) × (r.walk ≡ moved_on self);
      next = λ self r. r.walk;
    }

abbrev pub held_seen : SdesWalk → SteppedWalk → Answer (SdesChunk × List ℕ)
held_seen w r = map_ok (chunk_seen w.«data».now w.position) (parsed_of r.answer)
