mod Addresses
pub mod SetLaws
