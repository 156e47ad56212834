pub mod Limits
pub mod Events
pub mod Lines
pub mod Acks
