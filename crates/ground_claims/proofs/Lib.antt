pub mod Constants
pub mod Instances
pub mod Scopes
pub mod Telling
pub mod Columns
