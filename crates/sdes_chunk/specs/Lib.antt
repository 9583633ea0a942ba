pub mod Item
pub mod Chunk
pub mod Walk
pub mod Returned
