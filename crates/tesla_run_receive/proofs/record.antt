pub mod Pieces
pub mod Tails
pub mod Tailed
