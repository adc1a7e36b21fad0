pub mod Checked
pub mod Comparisons
pub mod Limits
pub mod Previous
pub mod Thresholds
