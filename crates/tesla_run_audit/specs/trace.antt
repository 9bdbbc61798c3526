pub mod Trace
pub mod Usage
