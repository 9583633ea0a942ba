pub mod Answers
pub mod Readings
pub mod Items
pub mod Chunks
pub mod Walks
pub mod Returned
