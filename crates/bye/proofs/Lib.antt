pub mod Byes
pub mod Writes
