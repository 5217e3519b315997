pub mod Sums
pub mod Slots
pub mod Chains
pub mod RegionStates
pub mod Room
pub mod FreeSets
pub mod NewRegions
pub mod ChargeChanges
pub mod ClassTable
pub mod UsedEnds
pub mod WordCommits
pub mod TableFields
pub mod NewRegionWords
pub mod BitLaws
pub mod AscendingNumbers
pub mod PageSets
pub mod CondemnedClasses
pub mod Accounts
pub mod FlipSteps
pub mod RegionReleases
pub mod FreedClasses
pub mod MemoryReclaims
pub mod PagesAfterReclaim
pub mod EmptyTable
pub mod GroundLaws
pub mod CommitInvariant
pub mod FlipInvariant
pub mod ReclaimInvariant
pub mod History
pub mod UsedWords
pub use Rattle.index_lists.proofs as index_lists
pub use Rattle.lisp_graph.proofs as lisp_graph
pub use Rattle.mem_port.proofs as mem_port
