pub mod Diagrams
pub mod Tells
pub mod Signs
pub mod Terms
pub mod Active
