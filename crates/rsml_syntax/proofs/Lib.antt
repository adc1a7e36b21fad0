mod Lowest
pub mod BodyLemmas
pub mod CharacterLemmas
pub mod Clean
pub mod Examples
pub mod FrontLemmas
pub mod LayoutLemmas
pub mod PrintLemmas
pub mod RenamingLemmas
pub mod ScanLemmas
pub mod WordLemmas
