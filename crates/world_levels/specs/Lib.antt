pub mod Spelling
pub mod Laws
pub mod Order
pub mod Growing
pub mod Stored
pub mod Spans
