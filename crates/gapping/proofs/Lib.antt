pub mod GapLemmas
pub mod OneGaps
pub mod ExplainedLemmas
