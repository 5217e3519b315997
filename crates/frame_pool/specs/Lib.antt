pub mod Fills
pub mod Invariant
pub mod Pool
pub mod Stored
pub use Rattle.index_lists.specs as index_lists
