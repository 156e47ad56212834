-- How a device is read.
pub mod Chained
pub mod Faults
pub mod Headers
pub mod Known
pub mod Listing
pub mod Marked
pub mod Orders
pub mod ReadOn
pub mod Readings
pub mod Scanned
