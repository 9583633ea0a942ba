pub mod Items
pub mod Sizes
pub mod Laying
pub mod Lone
