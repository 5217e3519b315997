pub mod ForwardChains
pub mod RunLaws
mod RunCells
