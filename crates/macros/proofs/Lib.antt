pub mod NoState
pub mod Alike
pub mod Asking
pub mod Below
pub mod Filling
pub mod Learning
pub mod Marks
pub mod OneTerm
pub mod SmallCells
pub mod Values
mod Means
pub mod AskedLemmas
pub mod StateLemmas
