pub mod Accounts
pub mod Bits
pub mod Charges
pub mod Flips
pub mod FreeSet
pub mod Frees
pub mod Fresh
pub mod Ground
pub mod History
pub mod Inside
pub mod PageList
pub mod Places
pub mod Room
pub mod Sound
pub mod Sums
pub mod Table
pub mod UsedWords
pub mod View
pub mod Views
pub use Rattle.index_lists.specs as index_lists
pub use Rattle.lisp_graph.specs as lisp_graph
pub use Rattle.mem_port.specs as mem_port
pub use Rattle.store_word.specs as store_word
