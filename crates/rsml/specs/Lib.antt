pub mod Asked
pub mod Commands
pub mod Counts
pub mod Laws
pub mod Output
pub mod Promises
pub mod Steps
pub mod Version
