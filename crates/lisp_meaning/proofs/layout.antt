-- The words of objects: laid out, copied, relocated and written again.
pub mod Layout
pub mod ObjectWords
pub mod ObjectCopy
pub mod RunCopy
pub mod RunMoves
pub mod RunEnds
pub mod Relocation
pub mod NewObjects
pub mod Stores
pub mod Placement
