pub mod Replies
pub mod Outcome
pub mod Steps
pub mod Top
pub mod Exercise
pub mod OneLine
pub mod Session
pub mod Reports
