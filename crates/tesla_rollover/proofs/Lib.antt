pub mod Numbers
pub mod Entries
pub mod Answered
pub mod Legal
pub mod InStep
pub mod Moved
mod Found
mod Asked
mod Opened
pub mod Called
pub mod Arrived
pub mod Taken
pub mod Prefixes
pub mod Epochs
pub mod Spelled
pub mod Memory
pub mod Handovers
pub mod Finishing
