-- How a world is written.
pub mod Spelling
pub mod File
pub mod Waiting
pub mod NumberTable
pub mod Numbering
pub mod Dump
pub mod Kept
pub mod Visits
