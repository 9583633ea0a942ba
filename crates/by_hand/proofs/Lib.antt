pub mod Calls
pub mod Again
pub mod Walking
