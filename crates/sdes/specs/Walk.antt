-- What the walk over a packet's chunks hands over.
use Rattle.rfc3550.specs.Packet.{Chunk}
use Rattle.rfc3550.specs.Walk.{SdesWalk}
use Rattle.sdes_chunk.specs.declared.chunk.SdesChunk.{SdesChunk}
use Rattle.sdes_chunk.specs.Chunk.{chunk_view}
use Rattle.sdes.specs.declared.sdes.ChunkWalk.{ChunkWalk}

abbrev pub chunk_walk : SdesWalk → ChunkWalk
chunk_walk w = record { at = w.at; end = w.end }

abbrev pub sdes_walk : ChunkWalk → SdesWalk
sdes_walk w = record { at = w.at; end = w.end }

abbrev pub chunk_stepped : Chunk × SdesWalk → SdesChunk × ChunkWalk
chunk_stepped x = (chunk_view x.0, chunk_walk x.1)
