mod Balanced
pub mod Causes
pub mod Due
pub mod Feeding
pub mod Heard
pub mod HeardSoFar
pub mod Moves
pub mod Numbered
mod Offering
pub mod Queued
pub mod Sending
pub mod Settled
pub mod Sized
pub mod Clocks
pub mod Closings
pub mod Links
pub mod Mails
pub mod Openings
mod Steps
pub mod Stopped
pub mod Pace
pub mod Sends
pub mod Taken
