pub mod History
pub mod Examples
pub mod Held
pub mod Rule
pub mod Steps
pub mod Passes
pub mod Permitted
