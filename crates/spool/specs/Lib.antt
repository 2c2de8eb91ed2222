pub mod Calls
pub mod Counts
pub mod Spools
pub mod Meaning
pub mod Packets
