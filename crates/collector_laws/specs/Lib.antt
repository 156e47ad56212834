pub mod Posts
pub mod Sent
pub mod Asked
pub mod Taken
pub mod Outcomes
pub mod Whole
pub mod Replied
