pub mod Packets
pub mod Walks
pub mod Returned
pub mod ItemPlaces
pub mod ItemTurns
pub mod ItemEntries
