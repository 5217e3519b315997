pub mod OpenableWorlds
pub use Rattle.lisp_heap.proofs as lisp_heap
pub use Rattle.lisp_heap.proofs.lisp_meaning
