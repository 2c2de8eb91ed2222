pub mod Lent
pub mod Admitted
pub mod Openings
pub mod Replaying
pub mod Rooms
pub mod Listing
pub mod Stages
pub mod Turns
