mod Demo
mod Depth
mod Indices
mod Kinds
mod Limits
mod ManyThresholds
mod Names
mod Places
mod Broken
mod States
mod Systems
mod Texts
mod Thresholds
pub mod Writing
