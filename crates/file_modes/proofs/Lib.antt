pub mod ModeAnswers
pub mod ObjectCounts
pub mod WorldFiles
mod BufferedConses
mod DumpFiles
mod WorldReferences
mod TextPrefixes
mod Worlds
mod SexprTexts
pub use Rattle.why_held.proofs.dump_laws
pub use Rattle.line_input.proofs as line_input
pub use Rattle.sexpr_text.proofs as sexpr_text
pub use Rattle.world_text.proofs as world_text
