pub mod AreSets
pub mod Bits
pub mod Grouped
pub mod Has
pub mod Blocks
pub mod Outside
pub mod Sets
