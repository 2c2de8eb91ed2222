pub mod Form
pub mod FormLaw
pub mod Messages
pub mod Rules
