pub mod Told
pub mod helpers
