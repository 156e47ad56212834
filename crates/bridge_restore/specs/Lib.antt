pub mod Told
pub mod Fault
pub mod Fresh
pub mod Storing
pub mod Into
pub mod RestoreRun
