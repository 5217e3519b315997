pub mod Machines
pub mod SmallWorld
pub mod Views
