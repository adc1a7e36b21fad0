pub mod MeaningLemmas
pub mod CanonicalLemmas
pub mod StepLemmas
pub mod HoldsLemmas
pub mod ChoiceLemmas
pub mod CutLemmas
pub mod ReachLemmas
pub mod GrowthLemmas
pub mod CallLemmas
pub mod BoundLemmas
pub mod SweepLemmas
pub mod ChainLemmas
pub mod SupportLemmas
pub mod ForgetLemmas
pub mod WaitingLemmas
pub mod ChildLemmas
mod KeptLemmas
