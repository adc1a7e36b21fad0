pub mod Around
pub mod Noting
pub mod Owned
pub mod Settings
pub mod Walks
