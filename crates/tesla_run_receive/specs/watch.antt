pub mod Allowed
pub mod Arguments
pub mod Lines
pub mod Usage
pub mod Watch
pub mod Written
