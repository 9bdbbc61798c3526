pub mod Fed
pub mod Feed
pub mod Due
pub mod Steps
pub mod Laws
