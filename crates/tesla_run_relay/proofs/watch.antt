pub mod Told
pub mod Files
pub mod Steps
pub mod Performed
