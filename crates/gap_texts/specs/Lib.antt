pub mod Fitting
pub mod GapText
