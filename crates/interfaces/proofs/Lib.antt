pub mod BuildLemmas
pub mod FreshLemmas
pub mod KeptLemmas
pub mod LatchLemmas
pub mod LatchedLemmas
pub mod OnceLemmas
pub mod TurnLemmas
pub mod WorldLemmas
