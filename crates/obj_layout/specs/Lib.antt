pub mod Forwards
pub mod Runs
pub mod Shapes
