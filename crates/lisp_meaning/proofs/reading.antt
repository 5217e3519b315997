-- From the invariant to the state that the machine represents.
pub mod ReadRoles
pub mod HuskWords
pub mod Adequacy
pub mod Husks
pub mod ReferenceMeaning
pub mod NextUnits
pub mod RepresentedState
