pub mod Followed
pub mod Outputs
pub mod Steps
