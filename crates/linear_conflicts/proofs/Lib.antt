pub mod ProductLemmas
pub mod CombinationLemmas
pub mod RowLemmas
