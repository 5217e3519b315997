-- The regions of a ground's image, and their classes.
pub mod Owners
pub mod Regions
pub mod Slots
pub mod HalfFullRegions
pub mod RegionOpening
pub mod NewRegion
pub mod Classes
pub mod FreedRegions
pub mod OldAndLive
pub mod LatestTransport
