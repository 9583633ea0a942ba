pub mod Block
pub mod Report
pub mod Reporter
pub mod Lists
