mod BufferBytes
mod RecordBytes
mod LastSaves
mod LogRoom
pub mod Names
mod UniqueAnswers
pub mod Records
mod Saves
mod Texts
mod TornRecords
pub use Rattle.band_disk.proofs as band_disk
