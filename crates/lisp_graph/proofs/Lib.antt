pub mod NumberedMaps
pub mod Cells
pub mod StoredObjects
pub mod GraphInvariant
pub mod Persistence
pub mod SameValues
pub mod Totals
