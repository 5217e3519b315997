pub mod PerformedCommands
pub mod Machines
pub mod NewMachine
pub mod SmallWorld
