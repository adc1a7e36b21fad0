pub mod ClaimLemmas
pub mod Growth
pub mod OneProve
pub mod ProveLemmas
pub mod TextLemmas
