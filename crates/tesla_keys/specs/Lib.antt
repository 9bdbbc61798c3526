pub mod Tip
pub mod Offers
