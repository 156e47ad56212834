pub mod Sizes
pub mod Heads
pub mod ReplyStream
pub mod Reading
pub mod Steps
pub mod Scanning
pub mod Parts
pub mod Keeping
