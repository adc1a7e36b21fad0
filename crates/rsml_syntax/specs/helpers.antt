pub mod Printing
pub mod Scanning
pub mod TokenKinds
