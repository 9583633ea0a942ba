-- Steps of a walk over the chunks of a packet, and what is seen of each: its numbers, and the bytes at its place.
use Rattle.std.specs.Prelude.{ℕ, ◌≡◌, List, take, drop, Result}
use Rattle.rfc3550.specs.Answer.{map_ok}
use Rattle.rfc3550.specs.Packet.{Chunk, chunk_bytes}
use Rattle.rfc3550.specs.Walk.{sdes_step, walk_after}
use Rattle.rfc3550.specs.Returned.{Stepper}
use Rattle.utils.specs.Error.{parsed_of}
use Rattle.utils.specs.declared.error.RtcpParseError.{RtcpParseError}
use Rattle.sdes_chunk.specs.Chunk.{chunk_view}
use Rattle.sdes_chunk.specs.declared.chunk.SdesChunk.{SdesChunk}
use Rattle.sdes.specs.Walk.{sdes_walk, chunk_stepped}
use Rattle.sdes.specs.declared.sdes.ChunkWalk.{ChunkWalk}

-- the ensures of `ChunkWalk::step` on the bytes s, and the walk that is left
abbrev pub chunk_steps : List ℕ → Stepper
chunk_steps s = record { H = ChunkWalk; R = Result (SdesChunk × ChunkWalk) RtcpParseError; Meets = λ self r. parsed_of r ≡ map_ok chunk_stepped (sdes_step s (sdes_walk self)); next = λ self r. walk_after self (parsed_of r) }

abbrev pub chunk_seen : List ℕ → ChunkWalk → SdesChunk × ChunkWalk → SdesChunk × List ℕ
chunk_seen s w x = (x.0, take x.0.length (drop w.at s))

abbrev pub chunk_is : Chunk → SdesChunk × List ℕ
chunk_is c = (chunk_view c, chunk_bytes c)
