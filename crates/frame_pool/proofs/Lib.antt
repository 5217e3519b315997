pub mod FrameMoves
pub mod PoolUpdates
pub mod PaddedWords
pub mod Spans
pub mod NewPool
pub use Rattle.index_lists.proofs as index_lists
