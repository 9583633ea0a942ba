-- A walk with the bytes that it holds: where it stands when opened and after a step.
use Rattle.std.specs.Prelude.{ℕ, List}
use Rattle.std.specs.Borrow.{Bor}
use Rattle.rfc3550.specs.Answer.{Answer, ok, refused, map_ok}
use Rattle.rfc3550.specs.Walk as rfc
use Rattle.sdes_chunk.specs.declared.chunk.SdesChunk.{SdesChunk}
use Rattle.sdes.specs.declared.sdes.ChunkWalk.{ChunkWalk}
use Rattle.sdes.specs.Walk.{chunk_walk, sdes_walk, chunk_stepped}
use Rattle.sdes_walk.specs.declared.SdesWalk.{SdesWalk}

-- over these bytes, at a place
abbrev pub walk_on : Bor (List ℕ) → rfc.SdesWalk → SdesWalk
walk_on d w = record { «data» = d; position = chunk_walk w }

-- over these bytes, with nothing to walk
abbrev pub ended_on : Bor (List ℕ) → SdesWalk
ended_on d = record { «data» = d; position = record { at = 0; end = 0 } }

-- of a packet that is refused there is nothing to walk
abbrev pub start_of : Answer ChunkWalk → ChunkWalk
start_of (ok w) = w
start_of (refused r) = record { at = 0; end = 0 }

abbrev pub opened_on : Bor (List ℕ) → SdesWalk
opened_on d = record { «data» = d; position = start_of (map_ok chunk_walk (rfc.open_sdes d.now)) }

-- the step of crate sdes
abbrev pub step_at : List ℕ → ChunkWalk → Answer (SdesChunk × ChunkWalk)
step_at s w = map_ok chunk_stepped (rfc.sdes_step s (sdes_walk w))

abbrev pub moved_on : SdesWalk → SdesWalk
moved_on w = record { «data» = w.«data»; position = rfc.walk_after w.position (step_at w.«data».now w.position) }
