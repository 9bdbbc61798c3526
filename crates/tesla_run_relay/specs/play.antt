pub mod Arguments
pub mod Due
pub mod Playing
pub mod Steps
