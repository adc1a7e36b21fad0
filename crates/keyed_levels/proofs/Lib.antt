pub mod Bounds
pub mod Lawful
pub mod Pairs
pub mod Places
pub mod Stores
