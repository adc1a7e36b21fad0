pub mod FaultLines
pub mod Headline
pub mod Judgements
pub mod Steps
pub mod Texts
