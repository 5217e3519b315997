-- The words of a ground's image: placed, written, and what they refer to.
pub mod Words
pub mod UsedWords
pub mod UsedEnds
pub mod PlacedWords
pub mod WrittenWords
pub mod Values
pub mod UsedByRegion
pub mod PlaceRoom
pub mod Layout
pub mod Places
pub mod FinalAddresses
pub mod Shapes
pub mod Runs
pub mod References
