pub mod Costs
pub mod Growth
pub mod Listing
pub mod Moves
pub mod NewMarks
pub mod Refusals
pub mod Views
pub use Rattle.cdr_lists.specs as cdr_lists
