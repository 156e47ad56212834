pub mod Skipping
pub mod Restoring
