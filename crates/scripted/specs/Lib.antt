pub mod Links
pub mod Offers
