pub mod Chunks
pub mod Frames
pub mod Headers
pub mod Reading
pub mod Room
pub mod Same
