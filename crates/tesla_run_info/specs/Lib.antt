pub mod info
pub mod seeds
