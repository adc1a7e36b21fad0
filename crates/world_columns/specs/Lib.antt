pub mod Columns
pub mod Failing
pub mod Gaps
pub mod GapsOf
pub mod Laws
