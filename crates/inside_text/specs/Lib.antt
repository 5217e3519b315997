pub mod Words
pub mod Regions
pub mod Pages
pub mod InsideText
pub mod Example
pub use Rattle.lisp_graph.specs as lisp_graph
