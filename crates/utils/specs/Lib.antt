pub mod Error
pub mod List
pub mod Parser
pub mod Parts
pub mod Writer
