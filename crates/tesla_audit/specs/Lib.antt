pub mod Steps
pub mod Outline
pub mod Answers
pub mod Wrong
pub mod Checks
