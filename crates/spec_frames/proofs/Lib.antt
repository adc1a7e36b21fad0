pub mod BodyLemmas
pub mod DeclLemmas
pub mod ListLemmas
pub mod PartLemmas
pub mod PreviousLemmas
pub mod SyntaxLemmas
