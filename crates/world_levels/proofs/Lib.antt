pub mod Spelled
pub mod Worlds
pub mod Changes
pub mod LevelLemmas
pub mod TableLemmas
pub mod NumberLemmas
pub mod Laid
