pub mod Faults
pub mod Fields
pub mod Growing
pub mod Headers
pub mod Looks
pub mod Making
pub mod Marks
pub mod Opening
pub mod Views
pub use Rattle.transporter.specs.lisp_ground
pub use Rattle.transporter.specs.lisp_meaning
pub use Rattle.obj_layout.specs as obj_layout
pub use Rattle.transporter.specs as transporter
