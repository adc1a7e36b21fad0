pub mod Asked
pub mod Found
pub mod Moves
pub mod Proof
pub mod Safe
pub mod Told
