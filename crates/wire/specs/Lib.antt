pub mod Octets
pub mod Fields
pub mod One
pub mod Read
pub mod Steps
pub mod Each
pub mod Find
pub mod Laws
