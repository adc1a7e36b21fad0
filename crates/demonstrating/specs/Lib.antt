pub mod Steps
pub mod Summary
pub mod Writing
pub mod Plant
pub mod Text
pub mod Events
pub mod Laws
