pub mod ValueLemmas
pub mod ForgetLemmas
pub mod KeyLemmas
pub mod StageLemmas
pub mod TurnLemmas
pub mod WorldLemmas
pub mod PrefixLemmas
pub mod SupportLemmas
