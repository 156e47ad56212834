pub mod Own
pub mod Passes
pub mod Ran
