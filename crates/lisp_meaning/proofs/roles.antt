-- What the roles of words show, and how changes of the memory change them.
pub mod RunNames
pub mod RegionChanges
pub mod OldRegions
pub mod Chains
pub mod FinalAddresses
pub mod RolesAfterLayout
pub mod UsedWords
