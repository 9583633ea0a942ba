pub mod Sizes
pub mod Lists
