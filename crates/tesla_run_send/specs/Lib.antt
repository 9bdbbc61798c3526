pub mod Arguments
pub mod ScriptKind
pub mod Script
pub mod Sender
pub mod Send
pub mod Rule
pub mod Steps
