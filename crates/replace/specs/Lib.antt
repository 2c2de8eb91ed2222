pub mod Decision
pub mod Names
pub mod Listed
pub mod Choice
