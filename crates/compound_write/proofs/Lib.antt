pub mod Writers
pub mod Checks
pub mod Returned
