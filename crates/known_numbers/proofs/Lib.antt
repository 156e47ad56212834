pub mod Raising
pub mod Adding
pub mod OneForm
pub mod Joining
pub mod Marking
pub mod Placing
pub mod Passing
