pub mod counts
pub mod comparisons
pub mod keys
pub mod thresholds
