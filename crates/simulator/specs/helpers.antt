pub mod Series
pub mod Turns
pub mod Kept
pub mod Progress
pub mod Ready
pub mod Reacting
pub mod Skipping
pub mod Taking
