pub mod grammar
pub mod helpers
pub mod limits
pub mod rules
pub mod text
