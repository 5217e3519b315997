pub mod Lines
pub mod Reader
pub mod Limits
pub mod Statuses
pub mod Verdict
pub mod WorldFile
