pub mod Years
pub mod Chains
pub mod Clocks
pub mod Rates
pub mod Runs
