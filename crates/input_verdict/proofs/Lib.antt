pub mod TraceNames
mod Faults
mod Places
pub mod AcceptedLines
pub mod VerdictInvariant
pub mod WellFormedLines
mod LineVerdicts
mod Buffered
pub mod GeneratedInput
pub mod DumpVerdicts
