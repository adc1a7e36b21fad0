pub mod Ends
pub mod Outputs
pub mod Simulating
pub mod Simulation
pub mod Fitting
pub mod helpers
