pub mod ActionLemmas
pub mod CountLemmas
pub mod OneOutput
pub mod RunLemmas
