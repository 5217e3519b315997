-- Maps of names to objects and places, and what a change of a map leaves unchanged.
pub mod LaterMaps
pub mod Puts
pub mod Frames
pub mod Patches
pub mod StoreChanges
