pub mod DraftState
pub mod Laws
pub mod Writes
pub mod Buffering
pub mod Parts
