pub mod Writer
pub mod Returned
