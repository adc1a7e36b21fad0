pub mod BitLemmas
pub mod RowLemmas
pub mod Pigeons
pub mod LengthLemmas
pub mod ReachLemmas
pub mod RoundLemmas
pub mod ClashLemmas
