pub mod DifferenceText
pub mod Laws
pub mod Outputs
pub mod Steps
