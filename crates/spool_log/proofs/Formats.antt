-- How a device is made an empty spool.
pub mod Formats
pub mod Fronts
pub mod Naming
