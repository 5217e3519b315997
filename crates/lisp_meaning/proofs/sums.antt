-- Sums: what areas and classes are charged, and what is left to move.
pub mod SomeBelow
pub mod Charges
pub mod Accounts
pub mod FlipSums
pub mod MoveSums
pub mod OldCharges
pub mod RetainedCharges
