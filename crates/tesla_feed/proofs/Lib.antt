pub mod Counting
pub mod Kept
pub mod Given
pub mod Going
pub mod Whole
pub mod Permitted
pub mod Logs
pub mod Ended
