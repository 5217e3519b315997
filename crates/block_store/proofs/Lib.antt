pub mod BlockReferences
pub mod ObjectWords
pub mod HeaderReads
pub mod NewBlocks
pub mod FieldStores
pub mod LiveFields
pub mod FieldMarks
pub mod GrowthMarks
pub mod MovedFields
pub mod FieldReads
pub mod WriteSequences
pub mod GrowthRoom
pub mod BlockGrowth
pub mod ScannedWords
pub mod NewRegions
pub use Rattle.transporter.proofs.lisp_ground
pub use Rattle.transporter.proofs.lisp_meaning
pub use Rattle.transporter.proofs as transporter
