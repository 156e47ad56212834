-- How a device is made an empty spool.
pub mod Format
