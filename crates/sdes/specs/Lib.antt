pub mod Sdes
pub mod Walk
pub mod Returned
pub mod ItemRows
pub mod ItemPlaces
pub mod ItemEntries
