pub mod Given
pub mod Words
pub mod App
