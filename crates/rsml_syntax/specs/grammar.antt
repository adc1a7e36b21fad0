pub mod Grammar
pub mod Layout
pub mod Parts
pub mod Places
pub mod WellFormed
pub mod Written
