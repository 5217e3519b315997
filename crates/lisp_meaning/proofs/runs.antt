-- Runs: the graph's, those by computation, and those that are impossible.
pub mod GraphRuns
pub mod Plays
pub mod WorkedRuns
pub mod Refutations
pub mod RefusedRuns
pub mod MisreadImages
