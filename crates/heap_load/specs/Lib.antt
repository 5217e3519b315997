pub mod Drafts
pub mod Faults
pub mod Loading
pub mod PlaceParts
pub mod Places
pub mod Views
