pub mod Compared
pub mod Edges
pub mod Pairs
pub mod Shown
pub mod Tabled
