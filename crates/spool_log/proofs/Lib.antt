pub mod Lists
pub mod Numbers
pub mod Stored
pub mod Going
pub mod Scans
pub mod Changes
pub mod Opens
pub mod Formats
