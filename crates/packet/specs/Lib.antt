pub mod Sizes
pub mod Accepted
pub mod Sums
pub mod Header
pub mod Frame
pub mod Reading
pub mod Room
