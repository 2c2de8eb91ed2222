pub mod Records
pub mod Packets
pub mod Apart
pub mod Filling
