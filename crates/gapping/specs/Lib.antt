pub mod Outputs
pub mod Explained
