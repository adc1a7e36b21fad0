pub mod Grammar
pub mod Joined
pub mod OfStates
pub mod Places
