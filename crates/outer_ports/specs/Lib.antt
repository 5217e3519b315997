pub mod Adapters
pub mod Buffers
pub mod Counting
pub mod Lines
pub mod Pages
pub mod Plans
pub mod Ports
pub mod Slots
