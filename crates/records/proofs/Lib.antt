pub mod Reports
pub mod Injective
