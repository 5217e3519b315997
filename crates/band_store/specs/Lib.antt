pub mod Directory
pub mod Format
pub mod Gates
pub mod Store
pub mod Calls
pub use Rattle.band_disk.specs as band_disk
pub use Rattle.byteorder.specs as byteorder
