pub mod Guards
pub mod Known
pub mod Named
pub mod Pairs
pub mod Sought
pub mod Tables
pub mod Asked
pub mod StatePhrases
