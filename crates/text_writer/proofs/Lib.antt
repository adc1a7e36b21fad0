pub mod WritingLemmas
pub mod Finished
pub mod Growth
pub mod Targets
pub mod Waiting
