mod Alike
pub mod Inside
mod Lists
pub mod Passing
mod Several
