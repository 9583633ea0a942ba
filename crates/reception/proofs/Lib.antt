pub mod Returned
pub mod Injective
