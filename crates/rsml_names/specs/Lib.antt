pub mod Kin
pub mod Bound
pub mod PreviousNames
