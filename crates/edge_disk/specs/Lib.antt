pub mod Disk
pub mod Calls
pub mod Gate
pub mod Leave
