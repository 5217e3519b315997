-- The definition of a run: states, transitions, flips, and what a program may see of them.
pub mod Maps
pub mod State
pub mod Changes
pub mod Charges
pub mod Reach
pub mod Flip
pub mod Step
pub mod Run
pub mod Opening
pub mod Sound
pub mod Follows
