pub mod MemberLemmas
pub mod DifferenceLemmas
