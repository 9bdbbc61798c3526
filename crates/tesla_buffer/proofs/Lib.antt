pub mod HeldSlots
pub mod Stored
pub mod Written
pub mod Resting
pub mod Shown
pub mod Cleared
