pub mod Listing
mod Addresses
mod Counted
mod Options
mod Rescuing
mod Restoring
mod Skipping
pub mod TokenWords
