pub mod Kept
pub mod Outputs
pub mod Steps
