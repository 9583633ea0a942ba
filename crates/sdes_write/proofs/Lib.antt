pub mod Packets
pub mod Names
