mod Examples
pub mod Latching
pub mod LeastBreaks
pub mod Next
pub mod NoBreak
pub mod Rounds
pub mod Runs
