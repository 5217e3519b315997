pub mod Renamed
pub mod Loaded
pub mod Back
pub mod Written
