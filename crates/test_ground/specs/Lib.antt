pub mod Trials
pub mod Written
pub mod Views
