pub mod Lines
pub mod Written
pub mod Arguments
pub mod Due
pub mod Allowed
pub mod Watch
pub mod Steps
