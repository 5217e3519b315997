pub mod Branches
pub mod Rotation
pub mod Search
pub mod Sets
pub mod Table
pub mod Tree
