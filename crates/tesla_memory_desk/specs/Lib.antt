pub mod Calls
pub mod LiveMemory
pub mod Memory
pub mod Settings
pub mod Stored
pub mod Sure
