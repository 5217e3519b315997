pub mod regions
pub mod words
pub mod invariant
pub mod sums
pub use Rattle.lisp_meaning.proofs as lisp_meaning
