pub mod Bounds
pub mod Sets
