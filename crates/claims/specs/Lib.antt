pub mod Breaks
pub mod Claims
pub mod Inductive
pub mod Laws
pub mod NextWorlds
pub mod Throughout
