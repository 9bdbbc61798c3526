pub mod Arguments
pub mod Lag
