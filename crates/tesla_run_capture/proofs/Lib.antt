pub mod Given
pub mod Kept
pub mod Filed
pub mod Pieces
pub mod Paged
pub mod Performed
