-- Runs that must be possible, runs that must be impossible, and memory images that must represent nothing.
pub mod Worked
pub mod Refused
pub mod Misread
