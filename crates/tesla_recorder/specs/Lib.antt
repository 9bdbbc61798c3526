pub mod Recorded
pub mod watched
