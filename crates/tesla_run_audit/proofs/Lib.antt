pub mod Audited
pub mod Steps
pub mod Files
pub mod Exact
