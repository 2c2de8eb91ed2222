pub mod Books
pub mod Houses
pub mod Pools
