pub mod Stepping
pub mod Lines
pub mod Rounds
