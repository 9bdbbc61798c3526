pub mod Rising
pub mod Counts
