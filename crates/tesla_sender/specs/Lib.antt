pub mod Made
pub mod Cost
pub mod Chains
pub mod Stands
pub mod Names
pub mod Senders
pub mod Opening
