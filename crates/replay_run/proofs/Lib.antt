pub mod SoundWorlds
pub mod Runs
pub mod SpaceAndAreas
pub mod CommandEffects
pub mod Accounts
pub mod BufferedReplies
pub mod SessionInvariant
pub mod Events
pub mod RunEnds
pub mod NextLines
pub mod AcceptedLines
mod PassedLines
pub mod LastLine
pub mod NonDumpLines
pub mod NoDumps
mod GeneratedWorld
pub mod CompleteRuns
mod UnreadArguments
pub mod Observations
pub mod RepresentedStates
mod GeneratedRun
pub mod SessionLines
pub mod ErrorLines
