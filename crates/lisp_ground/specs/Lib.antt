pub mod Image
pub mod GroundInvariant
pub mod Writes
pub mod Laying
pub mod Placing
pub mod After
pub mod Making
pub mod Collecting
pub mod Rewriting
pub mod Laws
pub mod Leading
pub mod Views
pub use Rattle.lisp_meaning.specs as lisp_meaning
