pub mod Config
pub mod Fitting
pub mod Rows
