pub mod Lasts
pub mod Scans
