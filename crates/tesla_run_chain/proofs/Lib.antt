pub mod DelayWords
pub mod Runs
pub mod Complete
