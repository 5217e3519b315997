pub mod LineFeeds
pub mod Cuts
pub mod LastLine
pub mod BrokenLimits
pub mod JudgedLines
pub mod ReaderInvariant
pub mod StatusCodes
pub mod WorldLines
