pub mod Characters
pub mod Lexing
pub mod Marks
pub mod Names
pub mod Renaming
pub mod Tokens
pub mod Words
