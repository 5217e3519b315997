mod Images
mod RestartedDisk
mod SaveTransitions
mod LoadTransitions
mod Parts
mod NameLines
mod ReplySequences
mod Runs
mod CommandSteps
mod RunEnds
mod StoreCases
pub mod JoinedLines
pub mod LineLaws
pub mod InputPrefixes
pub mod InputLines
pub mod AcceptedLines
pub mod AcceptedInputs
