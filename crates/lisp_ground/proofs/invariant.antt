-- What always holds of a ground, after each change of it.
pub mod Marks
pub mod OfImage
pub mod EmptyMachine
pub mod WordStores
pub mod NewObjects
pub mod Flips
pub mod Collections
pub mod Stores
pub mod Relocations
pub mod Agreements
