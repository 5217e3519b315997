pub mod maps
pub mod sums
pub mod closure
pub mod layout
pub mod roles
pub mod invariant
pub mod reading
pub mod runs
