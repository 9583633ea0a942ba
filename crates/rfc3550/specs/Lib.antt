-- What a reader has to believe, in document 01's order and words. Everything is over lists of bytes.
pub mod Answer
pub mod Bytes
pub mod Loss
pub mod Packet
pub mod Read
pub mod Write
pub mod Compound
pub mod Utf8
pub mod Walk
pub mod Lookup
pub mod Reception
pub mod History
pub mod Writer
pub mod Book
pub mod Calls
pub mod Returned
