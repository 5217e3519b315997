pub mod Census
pub mod CensusText
pub mod Chains
pub mod Checking
pub mod Choice
pub mod Nearest
pub mod Reached
pub mod OptionalNumbers
pub mod Search
pub mod Tallies
pub mod WhyText
pub use Rattle.dump_laws.specs as dump_laws
pub use Rattle.world_text.specs as world_text
