pub mod Bounds
pub mod Meant
