pub mod CameLemmas
pub mod DoneLemmas
pub mod OnePair
pub mod PairLemmas
pub mod SecondLemmas
pub mod ShowLemmas
pub mod StartLemmas
pub mod StatusLemmas
