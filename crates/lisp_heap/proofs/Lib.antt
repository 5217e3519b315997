pub mod ListedMemory
pub mod PageMarks
pub mod Worlds
pub mod NoAllocation
pub mod CommandRuns
pub mod PlainValues
pub mod Collections
pub mod Accounts
pub mod OpenHeaps
pub mod Allocations
pub mod Admissions
pub mod RepresentedStates
pub mod HeapWalks
pub mod Loads
pub mod HeapDumps
pub mod WorldQuotas
pub mod BlockGrowth
pub mod Units
pub mod FinalAccounts
mod HeapReads
mod AllocationMoments
mod ScanOrder
mod ScanTransports
pub mod Room
pub use Rattle.word_graph.proofs.lisp_meaning
pub mod MemoryReports
