pub mod Drawn
pub mod Runs
pub mod Complete
