pub mod Form
pub mod Words
pub mod HeapView
pub mod Marked
pub mod NewMarks
pub mod Stands
pub mod Loaded
pub mod Costs
pub mod Moves
pub mod Admits
pub mod Units
pub mod Making
pub mod Growth
pub mod Freed
pub mod Room
pub mod Walking
pub use Rattle.area_space.specs as area_space
pub use Rattle.word_graph.specs.dump_laws
pub use Rattle.word_graph.specs.lisp_meaning
pub use Rattle.heap_load.specs as heap_load
