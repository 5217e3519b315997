-- The reading (the representation relation): which state a memory represents.
pub mod Image
pub mod Classes
pub mod Forwards
pub mod Value
pub mod Objects
pub mod Marks
pub mod Units
pub mod Stands
