mod Copies
mod Cuts
mod FirstWords
pub mod Gains
pub mod BufferGains
mod Slots
mod PageWords
mod Tallies
