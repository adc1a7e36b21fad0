pub mod Constants
pub mod Grown
pub mod Sources
