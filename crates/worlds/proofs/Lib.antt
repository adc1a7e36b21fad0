pub mod Cells
pub mod FirstWorlds
