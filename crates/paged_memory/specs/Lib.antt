pub mod Levels
pub mod Marking
pub mod Moves
pub mod Order
pub mod Paging
pub mod Recent
pub mod Spans
pub use Rattle.frame_pool.specs as frame_pool
pub use Rattle.page_map.specs as page_map
