pub mod Chains
pub mod Link
pub mod Members
pub mod Rings
