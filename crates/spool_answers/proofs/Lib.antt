pub mod Adding
pub mod Marking
