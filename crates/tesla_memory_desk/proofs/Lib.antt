pub mod Mail
mod Never
pub mod Remembering
