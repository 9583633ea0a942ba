pub mod Marks
pub mod Passes
pub mod Calls
pub mod Returned
