pub mod Placing
pub mod Splitting
pub mod Asking
pub mod Widths
pub mod Reading
pub mod Choosing
pub mod Adding
