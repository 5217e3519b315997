mod Calls
mod DiskCalls
mod Images
mod Invariant
mod WriteSequences
pub mod Moments
mod OverwrittenBytes
pub mod TornWrites
