pub mod CountLimits
pub mod Counting
