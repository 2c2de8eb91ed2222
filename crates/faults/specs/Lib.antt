pub mod Chances
pub mod Fails
pub mod Faults
pub mod Links
pub mod Meaning
pub mod Namenodes
