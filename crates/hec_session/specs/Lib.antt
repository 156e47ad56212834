pub mod Codes
pub mod Target
pub mod Checks
pub mod Acts
pub mod OneAct
