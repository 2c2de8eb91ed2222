pub mod Scan
pub mod Slots
pub mod Limits
pub mod Big
pub mod Back
