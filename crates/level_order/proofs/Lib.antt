pub mod JointLemmas
pub mod PlanLemmas
