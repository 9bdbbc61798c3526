pub mod Sent
pub mod Performed
mod Permitted
