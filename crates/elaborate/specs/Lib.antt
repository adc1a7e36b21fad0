pub mod Enabled
pub mod Laws
pub mod Machine
pub mod Members
pub mod OnEvents
pub mod Parts
