pub mod Digits
pub mod Statuses
pub mod Heads
pub mod Spelling
pub mod Reading
