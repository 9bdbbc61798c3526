pub mod Collected
pub mod Written
pub mod Runs
pub mod Complete
