pub mod Arrays
pub mod Children
pub mod Kinds
pub mod Made
pub mod Places
pub mod Ranges
pub mod Trees
