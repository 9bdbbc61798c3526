pub mod Allowed
pub mod Arguments
pub mod Record
pub mod Usage
