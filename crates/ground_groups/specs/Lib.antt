pub mod Below
pub mod Groups
pub mod Heads
pub mod Places
pub mod Stored
