pub mod Kind
pub mod Unknown
pub mod Packet
pub mod Compound
pub mod Rebuilt
pub mod Returned
