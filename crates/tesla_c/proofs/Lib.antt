pub mod Loosely
pub mod Slotted
pub mod Standing
pub mod Sendings
pub mod Senders
