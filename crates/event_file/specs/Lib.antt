pub mod Fronts
pub mod Reading
pub mod Pieces
pub mod helpers
