pub mod Same
pub mod Wrongs
pub mod Outlines
pub mod Answered
pub mod Checked
