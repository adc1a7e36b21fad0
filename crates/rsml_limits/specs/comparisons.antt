pub mod Asks
pub mod Searched
pub mod Shown
