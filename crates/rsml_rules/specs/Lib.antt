pub mod breaches
