pub mod Ends
pub mod Worlds
