pub mod DemoLemmas
pub mod SummaryLemmas
mod Joined
mod Lists
mod Transitions
mod Soundness
mod Chains
mod Kept
mod Reading
mod Demos
mod Pieces
mod EventLines
mod EventText
mod Written
