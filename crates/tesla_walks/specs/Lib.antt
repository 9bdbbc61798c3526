pub mod Holding
pub mod Tips
pub mod Walking
pub mod ItemShown
pub mod Offered
pub mod Proved
pub mod ReachedIntervals
