-- What each word of a memory is for: the invariant that every transition keeps, and that implies the reading.
pub mod Roles
pub mod Interpretation
pub mod Fits
pub mod ChargesIn
pub mod Invariant
pub mod Laid
pub mod MovingRun
pub mod Placed
