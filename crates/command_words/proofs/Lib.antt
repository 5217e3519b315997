mod ArgumentKinds
mod Options
mod Ranges
mod ParserState
mod Rows
mod Walk
mod WalkResult
