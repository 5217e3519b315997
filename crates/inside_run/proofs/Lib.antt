pub mod FinalText
pub mod ShownMachines
pub mod RunStatuses
