pub mod Ending
pub mod Both
pub mod Opened
pub mod Words
pub mod Running
