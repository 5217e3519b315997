-- Accounts, charges and levels of a ground, as its image has them.
pub mod Charges
pub mod Accounts
pub mod DepartedObjects
pub mod Levels
