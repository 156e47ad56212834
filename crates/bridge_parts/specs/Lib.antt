pub mod Refused
pub mod Receivers
pub mod Written
pub mod Opened
pub mod Reached
pub mod Counted
pub mod Pending
pub mod Run
