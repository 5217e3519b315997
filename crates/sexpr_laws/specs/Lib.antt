pub mod Compiled
pub mod Spellable
pub mod ReadBack
