pub mod Handover
pub mod History
pub mod Epochs
pub mod Replies
pub mod Stands
pub mod Kept
pub mod Events
pub mod Laws
