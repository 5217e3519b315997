pub mod Frames
pub mod Plain
pub mod Reading
pub mod Spans
pub mod Store
pub mod Swaps
pub mod Tags
pub mod View
