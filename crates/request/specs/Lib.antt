pub mod Requests
pub mod SetupLaw
pub mod Setups
pub mod Stages
