pub mod Apps
pub mod Writes
