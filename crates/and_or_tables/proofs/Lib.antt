pub mod Bits
pub mod Columns
pub mod CountsLemmas
pub mod FastLemmas
pub mod LanesLemmas
pub mod Masked
pub mod Shapes
pub mod Spelling
