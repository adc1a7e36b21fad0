pub mod Conflicts
pub mod Settled
pub mod Steps
pub mod Visits
