pub mod PreviousCells
pub mod Sameness
