pub mod Sets
pub mod Graphs
pub mod Chains
pub mod Ended
pub mod Reached
pub mod Rounds
pub mod Clashes
