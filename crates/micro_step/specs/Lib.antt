pub mod Candidates
pub mod Micros
pub mod Numbers
pub mod Places
pub mod Rising
pub mod Rows
