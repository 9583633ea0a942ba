pub mod App
pub mod Write
