pub mod CompareLemmas
pub mod ExplainedLemmas
pub mod OneSame
pub mod TextLemmas
