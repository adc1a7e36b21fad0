pub mod Counts
pub mod Lines
pub mod Ready
pub mod Series
pub mod Sums
