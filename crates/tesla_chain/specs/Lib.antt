pub mod Cost
pub mod Levels
pub mod Traversal
pub mod Kept
