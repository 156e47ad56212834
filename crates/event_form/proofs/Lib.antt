pub mod Numbers
pub mod Fields
pub mod Unique
pub mod Strings
pub mod Faults
pub mod Found
pub mod Heads
