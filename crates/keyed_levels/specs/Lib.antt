pub mod Keyed
pub mod Stored
pub mod Laws
