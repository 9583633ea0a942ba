pub mod Reception
pub mod Returned
