pub mod References
pub mod SearchSteps
pub mod Levels
pub mod Chains
pub mod NearestObjects
pub mod ChosenChain
pub mod Checks
pub mod TallyRows
pub mod MergedRows
pub mod ReachedKeys
pub mod Counts
pub mod SameCensus
pub use Rattle.dump_laws.proofs as dump_laws
