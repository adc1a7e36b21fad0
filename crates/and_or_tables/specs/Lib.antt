pub mod Asked
pub mod Cells
pub mod Fast
pub mod Ground
pub mod Masks
pub mod Shape
