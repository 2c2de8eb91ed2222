pub mod Tallied
pub mod Judges
pub mod Positions
pub mod Tallies
pub mod Walks
pub mod Written
