pub mod Carried
pub mod CarriedRise
