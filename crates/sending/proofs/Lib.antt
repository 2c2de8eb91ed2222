pub mod Coming
pub mod Frames
