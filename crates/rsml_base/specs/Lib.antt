pub mod Counting
pub mod formers
