pub mod Counters
pub mod Coverage
pub mod Laws
pub mod Outputs
pub mod Rounds
pub mod Steps
pub mod Text
