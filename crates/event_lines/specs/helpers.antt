pub mod Capped
pub mod Values
pub mod Declared
pub mod Forms
pub mod Kept
