pub mod PacketKinds
pub mod Unknowns
pub mod Packets
pub mod Compounds
pub mod Listing
pub mod Rebuilt
pub mod Returned
pub mod Rows
