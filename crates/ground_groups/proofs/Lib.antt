mod Events
mod FunctionGroups
mod GroupLemmas
mod Inside
pub mod Instances
mod LineLemmas
mod Matched
mod Order
pub mod Putting
pub mod Rising
mod Runs
mod StateLots
pub mod Tables
