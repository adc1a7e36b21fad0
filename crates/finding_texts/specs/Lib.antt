pub mod Lines
pub mod Members
pub mod Numbers
pub mod Verdicts
