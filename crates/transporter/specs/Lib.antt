pub mod Growth
pub mod Laws
pub mod LiveWordsUnchanged
pub mod Marking
pub mod Making
pub mod Moving
pub mod Parcels
pub mod Reading
pub mod Reads
pub mod Relocations
pub mod Settled
pub mod Settling
pub mod Preserving
pub mod Transports
pub mod Writes
pub mod WrittenMarks
pub mod Views
pub use Rattle.lisp_ground.specs as lisp_ground
pub use Rattle.lisp_ground.specs.lisp_meaning
pub use Rattle.obj_layout.specs as obj_layout
