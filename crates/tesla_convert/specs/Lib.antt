pub mod Meaning
pub mod Rule
pub mod Files
pub mod Records
pub mod Held
pub mod Steps
