-- Lemmas on how a world is written.
pub mod Visits
pub mod Numbers
pub mod Entries
pub mod Walks
pub mod FileLaws
pub mod WaitingLaws
