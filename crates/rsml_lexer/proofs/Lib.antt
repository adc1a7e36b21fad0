pub mod ByteLemmas
pub mod ReadingLemmas
pub mod TextLemmas
pub mod ScanSteps
pub mod LexLemmas
