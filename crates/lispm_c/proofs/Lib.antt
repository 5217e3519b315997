pub mod Boxes
pub mod LineFeeds
