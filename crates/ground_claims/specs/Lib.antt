pub mod Checked
pub mod Scoped
pub mod StandsFor
pub mod Truths
