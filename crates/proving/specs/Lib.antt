pub mod ClaimTexts
pub mod Fitting
pub mod Laws
pub mod Numbers
pub mod Outputs
pub mod ProveText
pub mod Steps
