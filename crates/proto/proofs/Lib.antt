pub mod Conforming
pub mod Forms
