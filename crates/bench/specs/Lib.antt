pub mod Acts
pub mod Replicas
pub mod Mirrors
