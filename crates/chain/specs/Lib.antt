pub mod Acts
pub mod Client
pub mod Meaning
