-- How a spool changes.
pub mod Added
pub mod Adding
pub mod Beginning
pub mod Begun
pub mod Grown
pub mod Leaving
pub mod Marking
pub mod Lowest
pub mod Registered
pub mod Replacing
pub mod Shut
pub mod Starting
pub mod Storing
