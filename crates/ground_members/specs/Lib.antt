pub mod Alike
pub mod CaseLists
pub mod Members
pub mod Scoped
pub mod Shared
pub mod This
pub mod Written
