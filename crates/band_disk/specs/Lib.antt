pub mod Disks
pub mod Entries
pub mod Logs
pub mod Memory
pub mod Moments
pub use Rattle.outer_ports.specs as outer_ports
