-- What a program holds stays closed: each reference in it is to a name that is held too.
pub mod Closure
pub mod ClosedSets
pub mod Effects
pub mod HeldNames
pub mod Programs
pub mod Collections
pub mod Limits
pub mod Transitions
