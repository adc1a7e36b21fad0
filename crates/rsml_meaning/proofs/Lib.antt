mod AllWorlds
pub mod Children
pub mod Computed
pub mod Entering
pub mod Exists
mod FirstFault
mod FunctionValues
mod Lengths
mod LineRules
pub mod Order
pub mod OneReport
mod Pigeons
pub mod Prefixes
mod Reached
pub mod Repeats
pub mod Reported
pub mod Same
pub mod Stable
mod VerdictLines
pub mod Ways
mod WellFormed
pub mod Written
mod examples
pub mod values
pub mod Globals
pub mod Lists
pub mod rules
mod Apart
mod Deterministic
mod RunExamples
pub mod Latched
pub mod Lines
pub mod Longer
mod Lowest
pub mod Messages
pub mod MicroSteps
mod Runs
mod Sends
pub mod Sources
pub mod Steps
pub mod Turns
mod MessageValues
mod Verdict
pub mod WorldSteps
