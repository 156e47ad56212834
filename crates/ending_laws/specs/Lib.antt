pub mod Replaying
pub mod Draining
