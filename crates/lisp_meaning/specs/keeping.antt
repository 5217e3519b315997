-- What each change of a memory has to keep, so that the invariant holds after it.
pub mod TableChanges
pub mod After
pub mod Allocation
pub mod Transport
pub mod Rewriting
pub mod Collecting
pub mod Empty
