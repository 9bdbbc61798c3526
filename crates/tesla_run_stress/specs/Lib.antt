pub mod Arguments
pub mod Stress
pub mod Base
pub mod Load
pub mod Steps
