pub mod FoundLemmas
pub mod InputCellLemmas
pub mod InstanceLemmas
pub mod LabelLemmas
pub mod PathTexts
pub mod SentLemmas
pub mod Sizes
pub mod StartLemmas
