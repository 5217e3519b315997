pub mod Modes
pub mod Reading
pub mod Taken
pub mod FileError
pub mod Outcome
pub use Rattle.why_held.specs.dump_laws
pub use Rattle.line_input.specs as line_input
pub use Rattle.lisp_graph.specs as lisp_graph
pub use Rattle.sexpr_print.specs as sexpr_print
pub use Rattle.sexpr_text.specs as sexpr_text
pub use Rattle.lisp_graph.specs.store_word
pub use Rattle.world_text.specs as world_text
