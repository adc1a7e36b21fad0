pub mod Least
pub mod Narrowing
pub mod Finding
pub mod Kept
pub mod Counts
