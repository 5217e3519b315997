pub mod NewObjects
pub mod Relocations
pub mod PlaceCommits
pub mod MachineFlip
