pub mod Returned
pub mod Walks
