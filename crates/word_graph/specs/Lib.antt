pub mod Shown
pub mod Placed
pub mod Laws
pub mod Words
pub mod Views
pub use Rattle.dump_laws.specs as dump_laws
pub use Rattle.lisp_ground.specs as lisp_ground
pub use Rattle.lisp_ground.specs.lisp_meaning
