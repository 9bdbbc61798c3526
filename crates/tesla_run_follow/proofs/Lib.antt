pub mod Complete
pub mod Ends
pub mod Over
pub mod Runs
