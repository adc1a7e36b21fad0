pub mod Values
pub mod Keys
pub mod Settle
pub mod Stages
pub mod Laws
