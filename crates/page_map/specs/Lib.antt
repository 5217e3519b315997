pub mod Invariant
pub mod Map
