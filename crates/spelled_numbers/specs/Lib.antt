pub mod Weights
pub mod Spelling
pub mod Bits
pub mod Laws
pub mod Sums
pub mod Table
pub mod Steps
pub mod Waiting
