pub mod Slot
pub mod Held
pub mod Told
pub mod Receivers
pub mod Senders
pub mod Pure
pub mod Making
pub mod Followers
