pub mod Dotted
pub mod InputCells
pub mod Inputs
pub mod Listing
pub mod SentCases
pub mod Sources
pub mod Tables
