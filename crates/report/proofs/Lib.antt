pub mod Losses
pub mod Blocks
pub mod Reports
