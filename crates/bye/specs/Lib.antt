pub mod Bye
pub mod Write
