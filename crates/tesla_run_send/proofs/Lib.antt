mod Frames
mod Scripts
mod Meanings
pub mod Sender
mod Runs
mod Complete
