pub mod Draws
pub mod Found
pub mod Kept
pub mod Laws
pub mod Reactions
pub mod Rounds
