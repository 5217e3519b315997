pub mod Input
pub mod Verdict
pub mod Events
pub mod Places
pub mod Conses
pub mod Asking
pub use Rattle.dump_laws.specs as dump_laws
