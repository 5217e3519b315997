pub mod Name
pub mod Cause
pub mod Graph
pub mod Effect
pub mod Commands
pub mod Request
pub mod KeyedGraph
pub mod Store
pub mod Objects
pub mod Fields
pub mod Groups
pub mod Flips
pub mod World
pub mod Totals
pub mod Laws
pub use Rattle.store_word.specs as store_word
