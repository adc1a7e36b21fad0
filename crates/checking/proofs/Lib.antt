pub mod CheckLemmas
pub mod HeadlineLemmas
pub mod OneCheck
