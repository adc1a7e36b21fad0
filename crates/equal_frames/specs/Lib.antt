pub mod Alike
pub mod Differences
pub mod Laws
